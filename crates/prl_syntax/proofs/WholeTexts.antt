-- What the parser answers, in terms of the grammar.
use Rattle.std.proofs.Common.{◌≡◌, ◌≢◌, ◌≤◌, ℕ, Bool, true, false, leb, List, length, Result, Ok, Err, IfOk, IfErr, refl, sym, ap, ◌∙◌, subst, inl, inr}
use Rattle.std.proofs.lemmas.Bool.{leb-true, leb-false, le-leb, lt-leb, cond-true, cond-false}
use Rattle.prl_base.specs.Reading.{GivesBut}
use Rattle.prl_ast.specs.Trees.{ProgramTree}
use Rattle.prl_lex.specs.declared.tokens.LexFault.TheVariants as lexical
use Rattle.prl_lex.proofs.Outcomes.{text_has_outcome}
use Rattle.prl_lex.specs.Vocabulary.{IsTextOf, IsRead, tree_of_text}
use Rattle.prl_lex.specs.declared.texts.TextFault.{TextFault}
use Rattle.prl_lex.specs.declared.texts.TextFault.TheVariants as texts
use Rattle.prl_lex.proofs.TextTrees.{read_is, is_read}
use Rattle.prl_syntax.specs.Vocabulary.{ParseFault, program_texts, Explains, IsParsed, of_text, limited, outcome_of}
use Rattle.prl_syntax.specs.declared.parsing.ParseFault.TheVariants as faults
use Rattle.prl_syntax.proofs.Right.{right, program_apart}

abbrev parse_of : List ℕ → Result ProgramTree ParseFault
parse_of text = outcome_of (tree_of_text program_texts text)

few : (tree : ProgramTree) → length tree.nodes ≤ 256 → limited tree ≡ Ok tree
few tree le = cond-true (leb (length tree.nodes) 256) _ _ (le-leb (length tree.nodes) 256 le)

of_limited : (text : List ℕ) (tree : ProgramTree) (b : Bool) → leb (length tree.nodes) 256 ≡ b → IsTextOf program_texts text tree → IsParsed text (limited tree)
of_limited text tree true e h = let P : Result ProgramTree ParseFault → Type 0 = IsParsed text in subst P (sym (cond-true (leb (length tree.nodes) 256) _ _ e)) (record { read = h; nodes = leb-true (length tree.nodes) 256 e })
of_limited text tree false e h =
    let P : Result ProgramTree ParseFault → Type 0 = IsParsed text in
    subst P (sym (cond-false (leb (length tree.nodes) 256) _ _ e)) (inr (record { tree = tree; read = h; many = leb-false (length tree.nodes) 256 e; is = refl }))

-- what the tree of a text, or its first fault, means for its program
parsed : (text : List ℕ) (r : Result ProgramTree TextFault) → IsRead program_texts text r → IsParsed text (outcome_of r)
parsed text (Ok tree) h = of_limited text tree (leb (length tree.nodes) 256) refl h
parsed text (Err (texts.Lexical (lexical.BadToken at))) h = h
parsed text (Err (texts.Lexical (lexical.NumberRange at))) h = inl h
parsed text (Err (texts.Lexical (lexical.Limit limit))) h = inl h
parsed text (Err (texts.Lexical lexical.Memory)) h = absurd (text_has_outcome text 0 0 0 h)
parsed text (Err (texts.Unexpected at)) h = h
parsed text (Err (texts.NumberRange at)) h = inr h
parsed text (Err texts.Memory) h = absurd h

read : (text : List ℕ) (r : Result ProgramTree TextFault) → IsRead program_texts text r → parse_of text ≡ outcome_of r
read text r h = ap outcome_of (is_read program_texts right program_apart text r h)

is_parsed : (text : List ℕ) (r : Result ProgramTree ParseFault) → IsParsed text r → parse_of text ≡ r
is_parsed text (Ok tree) h = read text (Ok tree) h.read ∙ few tree h.nodes
is_parsed text (Err (faults.BadToken at)) h = read text (Err (texts.Lexical (lexical.BadToken at))) h
is_parsed text (Err (faults.Unexpected at)) h = read text (Err (texts.Unexpected at)) h
is_parsed text (Err (faults.NumberRange at)) (inl h) = read text (Err (texts.Lexical (lexical.NumberRange at))) h
is_parsed text (Err (faults.NumberRange at)) (inr h) = read text (Err (texts.NumberRange at)) h
is_parsed text (Err (faults.Limit limit)) (inl h) = read text (Err (texts.Lexical (lexical.Limit limit))) h
is_parsed text (Err (faults.Limit limit)) (inr h) =
    read text (Ok h.tree) h.read ∙ cond-false (leb (length h.tree.nodes) 256) _ _ (lt-leb (length h.tree.nodes) 256 h.many) ∙ ap (λ l. Err (faults.Limit l)) (sym h.is)
is_parsed text (Err faults.Memory) h = absurd h

-- each text has one outcome
pub some_outcome : (text : List ℕ) → (r : Result ProgramTree ParseFault) × IsParsed text r
some_outcome text = (parse_of text, parsed text (tree_of_text program_texts text) (read_is program_texts right program_apart text))

pub one_outcome : (text : List ℕ) (r s : Result ProgramTree ParseFault) → IsParsed text r → IsParsed text s → r ≡ s
one_outcome text r s h k = sym (is_parsed text r h) ∙ is_parsed text s k

given : (text : List ℕ) (r : Result ProgramTree TextFault) → tree_of_text program_texts text ≡ r → IsParsed text (outcome_of r)
given text r e = let P : Result ProgramTree TextFault → Type 0 = IsRead program_texts text in parsed text r (subst P e (read_is program_texts right program_apart text))

pub given_fault : (text : List ℕ) (f : TextFault) (e : ParseFault) → e ≡ of_text f → (f ≢ texts.Memory → tree_of_text program_texts text ≡ Err f) → e ≢ faults.Memory → Explains text e
given_fault text f e is h some = subst (Explains text) (sym is) (given text (Err f) (h (λ none. some (is ∙ ap of_text none))))

-- what came of the tree of a text
given_tree : (text : List ℕ) (tree : ProgramTree) (r : Result ProgramTree ParseFault) → tree_of_text program_texts text ≡ Ok tree → limited tree ≡ r → IsParsed text r
given_tree text tree r e same = let P : Result ProgramTree ParseFault → Type 0 = IsParsed text in subst P same (given text (Ok tree) e)

module _ {X : Type 0} (view : X → ProgramTree) (text : List ℕ) (tree : ProgramTree) (e : tree_of_text program_texts text ≡ Ok tree) where
  pub given_found : (r : Result X ParseFault) → GivesBut faults.Memory view r (limited tree) → IfOk r (λ x. IsParsed text (Ok (view x)))
  given_found (Ok x) h = given_tree text tree (Ok (view x)) e h
  given_found (Err f) h = tt

  pub given_limit : (r : Result X ParseFault) → GivesBut faults.Memory view r (limited tree) → IfErr r (λ f. f ≢ faults.Memory → Explains text f)
  given_limit (Ok x) h = tt
  given_limit (Err f) h = λ some. given_tree text tree (Err f) e (h some)
