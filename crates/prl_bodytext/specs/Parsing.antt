-- The bodies that a text has, or its first fault.
use Rattle.std.specs.Prelude.{◌≡◌, ◌⊎◌, ℕ, List, Result, Ok, Err}
use Rattle.prl_body.specs.declared.faults.BodyFault.{BodyFault}
use Rattle.prl_body.specs.declared.faults.BodyFault.TheVariants as faults
use Rattle.prl_body.specs.Texts.{Tree, TextTree}
use Rattle.prl_lex.specs.declared.tokens.LexFault.TheVariants as lexical
use Rattle.prl_lex.specs.Lexing.{tokens_of}
use Rattle.prl_lex.specs.Texts.{Texts, IsTextOf, IsUnexpectedAt, IsOutOfRangeAt}
use Rattle.prl_bodytext.specs.Grammar.{Bodies, bodies}
use Rattle.prl_bodytext.specs.Ranges.{body_ranges}
use Rattle.prl_bodytext.specs.Words.{body_vocabulary}

abbrev pub body_texts : Texts Tree (List TextTree)
body_texts = record { vocabulary = body_vocabulary; ranges = body_ranges; language = bodies; whole = Bodies }

-- no token begins at the place, or a number above 2^64 - 1 does
abbrev pub IsBadTokenAt : List ℕ → ℕ → Type 0
IsBadTokenAt text at = (tokens_of text ≡ Err (lexical.BadToken at)) ⊎ (tokens_of text ≡ Err (lexical.NumberRange at))

-- what each fault means for the text; there are no other ones, and want of memory is none
abbrev pub Explains : List ℕ → BodyFault → Type 0
Explains text (faults.Syntax at) = IsBadTokenAt text at ⊎ (IsUnexpectedAt body_texts text at ⊎ IsOutOfRangeAt body_texts text at)
Explains text (faults.Limit limit) = tokens_of text ≡ Err (lexical.Limit limit)
Explains text (faults.BodyName at) = ⊥
Explains text (faults.BodyType at) = ⊥
Explains text (faults.BodyArity at) = ⊥
Explains text (faults.Missing name) = ⊥
Explains text faults.Memory = ⊥

-- what comes of a text: its bodies, or its first fault
abbrev pub IsParsed : List ℕ → Result (List TextTree) BodyFault → Type 0
IsParsed text (Ok trees) = IsTextOf body_texts text trees
IsParsed text (Err fault) = Explains text fault
