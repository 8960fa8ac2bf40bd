-- The tree that a text has, or its first fault.
use Rattle.std.specs.Prelude.{◌≡◌, ℕ, false, List, length, Some, None, Result, Ok, Err}
use Rattle.prl_lex.specs.declared.tokens.Token.{Token}
use Rattle.prl_lex.specs.Lexing.{tokens_of}
use Rattle.prl_lex.specs.declared.texts.TextFault.{TextFault}
use Rattle.prl_lex.specs.declared.texts.TextFault.TheVariants as faults
use Rattle.prl_lex.specs.Productions.{Grammar}
use Rattle.prl_lex.specs.Language.{Language, Text}
use Rattle.prl_lex.specs.Classes.{Vocabulary, lexemes_of}
use Rattle.prl_lex.specs.Ranges.{Ranges, out_of_range}
use Rattle.prl_lex.specs.Whole.{place_of, IsFirstUnexpected}

-- what the texts of a language are: their words, the ranges of their numbers, and the grammar of a whole text
pub record Texts (R A : Type 0) : Type 1 where
  pub vocabulary : Vocabulary
  pub ranges : Ranges
  pub language : Language R
  pub whole : Grammar R A

-- The text has the tree: its tokens are a text of the grammar with this tree, and its numbers are in range.
pub record IsTextOf {R A : Type 0} (s : Texts R A) (text : List ℕ) (tree : A) : Type 0 where
  pub tokens : List Token
  pub lexical : tokens_of text ≡ Ok tokens
  pub written : Text s.language s.whole tree (lexemes_of s.vocabulary text tokens)
  pub ranges : out_of_range s.ranges false 0 (lexemes_of s.vocabulary text tokens) ≡ None

-- The first unexpected token is at the place: with the tokens up to it, however it goes on, the text is not of the grammar.
pub record IsUnexpectedAt {R A : Type 0} (s : Texts R A) (text : List ℕ) (at : ℕ) : Type 0 where
  pub tokens : List Token
  pub left : ℕ
  pub lexical : tokens_of text ≡ Ok tokens
  pub first : IsFirstUnexpected (Text s.language s.whole) (lexemes_of s.vocabulary text tokens) left
  pub place : at ≡ place_of (lexemes_of s.vocabulary text tokens) left (length text)

-- The number at the place is the first out of its range, in a text of the grammar.
pub record IsOutOfRangeAt {R A : Type 0} (s : Texts R A) (text : List ℕ) (at : ℕ) : Type 0 where
  pub tokens : List Token
  pub tree : A
  pub lexical : tokens_of text ≡ Ok tokens
  pub written : Text s.language s.whole tree (lexemes_of s.vocabulary text tokens)
  pub first : out_of_range s.ranges false 0 (lexemes_of s.vocabulary text tokens) ≡ Some at

-- what comes of a text; want of memory is no fault of it
abbrev pub IsRead : {R A : Type 0} → Texts R A → List ℕ → Result A TextFault → Type 0
IsRead s text (Ok tree) = IsTextOf s text tree
IsRead s text (Err (faults.Lexical fault)) = tokens_of text ≡ Err fault
IsRead s text (Err (faults.Unexpected at)) = IsUnexpectedAt s text at
IsRead s text (Err (faults.NumberRange at)) = IsOutOfRangeAt s text at
IsRead s text (Err faults.Memory) = ⊥
