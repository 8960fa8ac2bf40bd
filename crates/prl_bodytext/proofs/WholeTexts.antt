-- What the parser answers, in terms of the grammar.
use Rattle.std.proofs.Common.{◌≡◌, ◌≢◌, List, ℕ, Result, Ok, Err, sym, ap, ◌∙◌, subst, inl, inr}
use Rattle.prl_body.specs.Texts.{TextTree}
use Rattle.prl_body.specs.declared.faults.BodyFault.{BodyFault}
use Rattle.prl_body.specs.declared.faults.BodyFault.TheVariants as faults
use Rattle.prl_lex.specs.declared.tokens.LexFault.TheVariants as lexical
use Rattle.prl_lex.proofs.Outcomes.{text_has_outcome}
use Rattle.prl_lex.specs.Vocabulary.{IsRead, tree_of_text, told}
use Rattle.prl_lex.specs.declared.texts.TextFault.{TextFault}
use Rattle.prl_lex.specs.declared.texts.TextFault.TheVariants as texts
use Rattle.prl_lex.proofs.TextTrees.{read_is, is_read}
use Rattle.prl_bodytext.specs.Parsing.{body_texts, Explains, IsParsed}
use Rattle.prl_bodytext.specs.code.Outcomes.{of_text}
use Rattle.prl_bodytext.proofs.Right.{right, bodies_apart}

abbrev bodies_of : List ℕ → Result (List TextTree) BodyFault
bodies_of text = told of_text (tree_of_text body_texts text)

-- what the tree of a text, or its first fault, means for its bodies
pub parsed : (text : List ℕ) (r : Result (List TextTree) TextFault) → IsRead body_texts text r → IsParsed text (told of_text r)
parsed text (Ok trees) h = h
parsed text (Err (texts.Lexical (lexical.BadToken at))) h = inl (inl h)
parsed text (Err (texts.Lexical (lexical.NumberRange at))) h = inl (inr h)
parsed text (Err (texts.Lexical (lexical.Limit limit))) h = h
parsed text (Err (texts.Lexical lexical.Memory)) h = absurd (text_has_outcome text 0 0 0 h)
parsed text (Err (texts.Unexpected at)) h = inr (inl h)
parsed text (Err (texts.NumberRange at)) h = inr (inr h)
parsed text (Err texts.Memory) h = absurd h

read : (text : List ℕ) (r : Result (List TextTree) TextFault) → IsRead body_texts text r → bodies_of text ≡ told of_text r
read text r h = ap (told of_text) (is_read body_texts right bodies_apart text r h)

is_parsed : (text : List ℕ) (r : Result (List TextTree) BodyFault) → IsParsed text r → bodies_of text ≡ r
is_parsed text (Ok trees) h = read text (Ok trees) h
is_parsed text (Err (faults.Syntax at)) (inl (inl h)) = read text (Err (texts.Lexical (lexical.BadToken at))) h
is_parsed text (Err (faults.Syntax at)) (inl (inr h)) = read text (Err (texts.Lexical (lexical.NumberRange at))) h
is_parsed text (Err (faults.Syntax at)) (inr (inl h)) = read text (Err (texts.Unexpected at)) h
is_parsed text (Err (faults.Syntax at)) (inr (inr h)) = read text (Err (texts.NumberRange at)) h
is_parsed text (Err (faults.Limit limit)) h = read text (Err (texts.Lexical (lexical.Limit limit))) h
is_parsed text (Err (faults.BodyName at)) h = absurd h
is_parsed text (Err (faults.BodyType at)) h = absurd h
is_parsed text (Err (faults.BodyArity at)) h = absurd h
is_parsed text (Err (faults.Missing name)) h = absurd h
is_parsed text (Err faults.Memory) h = absurd h

-- each text has one outcome
pub some_outcome : (text : List ℕ) → (r : Result (List TextTree) BodyFault) × IsParsed text r
some_outcome text = (bodies_of text, parsed text (tree_of_text body_texts text) (read_is body_texts right bodies_apart text))

pub one_outcome : (text : List ℕ) (r s : Result (List TextTree) BodyFault) → IsParsed text r → IsParsed text s → r ≡ s
one_outcome text r s h k = sym (is_parsed text r h) ∙ is_parsed text s k

-- what was read of a text, or its first fault, is so
pub given : (text : List ℕ) (r : Result (List TextTree) TextFault) → tree_of_text body_texts text ≡ r → IsParsed text (told of_text r)
given text r e = let P : Result (List TextTree) TextFault → Type 0 = IsRead body_texts text in parsed text r (subst P e (read_is body_texts right bodies_apart text))

pub given_fault : (text : List ℕ) (f : TextFault) (e : BodyFault) → e ≡ of_text f → (f ≢ texts.Memory → tree_of_text body_texts text ≡ Err f) → e ≢ faults.Memory → Explains text e
given_fault text f e is h some = subst (Explains text) (sym is) (given text (Err f) (h (λ none. some (is ∙ ap of_text none))))
