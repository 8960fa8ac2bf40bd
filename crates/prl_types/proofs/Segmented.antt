-- Flows as the code lists them, and as they stand in the text.
use Rattle.std.proofs.Common.{◌≡◌, ◌<◌, ◌≤◌, ◌+◌, ◌++◌, ◌∙◌, ℕ, List, [], ◌∷◌, length, drop, slice_index_or, refl, sym, ap, append_assoc, Some, None}
use Rattle.std.specs.List.{slice_get}
use Rattle.std.proofs.lemmas.List.{append-nil, map-append, drop_all, at_drop_more}
use Rattle.prl_terms.specs.declared.terms.Rule.{Rule}
use Rattle.prl_terms.specs.declared.terms.Term.{Term}
use Rattle.prl_types.specs.Vocabulary.{Segment, Flow, placed, terms_of, operand, argument_rules, listed, terms_in, flows_in}
use Rattle.prl_types.proofs.Walking.{terms_placed, no_arguments}

flows_in_append : (xs ys : List Segment) → flows_in (xs ++ ys) ≡ flows_in xs ++ flows_in ys
flows_in_append [] ys = refl
flows_in_append (x ∷ xs) ys = ap (λ (fs : List Flow). placed x.at (listed x.flows) ++ fs) (flows_in_append xs ys) ∙ sym (append_assoc (placed x.at (listed x.flows)) (flows_in xs) (flows_in ys))

-- one segment more, and those after it
pub flows_push : (list ss : List Segment) (k : ℕ) (d : Segment) (at : ℕ) → k < length ss
    → flows_in (list ++ record { at = at; flows = (slice_index_or ss k d).flows } ∷ []) ++ placed at (terms_in (drop (k + 1) ss)) ≡ flows_in list ++ placed at (terms_in (drop k ss))
flows_push list ss k d at below =
    let here = listed (slice_index_or ss k d).flows in
    let later = terms_in (drop (k + 1) ss) in
    ap (λ (fs : List Flow). fs ++ placed at later) (flows_in_append list (record { at = at; flows = (slice_index_or ss k d).flows } ∷ []) ∙ ap (λ (fs : List Flow). flows_in list ++ fs) (append-nil (placed at here)))
    ∙ append_assoc (flows_in list) (placed at here) (placed at later)
    ∙ ap (λ (fs : List Flow). flows_in list ++ fs) (sym (map-append (λ (f : Term). record { term = f; at = at }) here later) ∙ ap (placed at) (sym (at_drop_more terms_in ss k d below)))

-- the same flows without their places
pub terms_of_flows : (ss : List Segment) → terms_of (flows_in ss) ≡ terms_in ss
terms_of_flows [] = refl
terms_of_flows (s ∷ ss) =
    map-append (λ (f : Flow). f.term) (placed s.at (listed s.flows)) (flows_in ss)
    ∙ ap (λ (us : List Term). us ++ terms_of (flows_in ss)) (terms_placed s.at (listed s.flows))
    ∙ ap (λ (us : List Term). listed s.flows ++ us) (terms_of_flows ss)

operand_first : (ts more : List Term) (t : Term) → slice_get ts 0 ≡ Some t → t ≡ operand (ts ++ more)
operand_first [] more t e = absurd (cc)
operand_first (u ∷ ts) more t e = cc

operand_past : (ts more : List Term) → slice_get ts 0 ≡ None → operand more ≡ operand (ts ++ more)
operand_past [] more e = refl
operand_past (u ∷ ts) more e = absurd (cc)

-- an operator is of the first flow of a segment that has one
pub operand_here : (ss : List Segment) (k : ℕ) (d : Segment) (t : Term) → k < length ss → slice_get (listed (slice_index_or ss k d).flows) 0 ≡ Some t → t ≡ operand (terms_in (drop k ss))
operand_here ss k d t below e =
    operand_first (listed (slice_index_or ss k d).flows) (terms_in (drop (k + 1) ss)) t e ∙ sym (at_drop_more (λ (xs : List Segment). operand (terms_in xs)) ss k d below)

-- and else of that of a later one
pub operand_later : (ss : List Segment) (k : ℕ) (d : Segment) → k < length ss → slice_get (listed (slice_index_or ss k d).flows) 0 ≡ None → operand (terms_in (drop (k + 1) ss)) ≡ operand (terms_in (drop k ss))
operand_later ss k d below e =
    operand_past (listed (slice_index_or ss k d).flows) (terms_in (drop (k + 1) ss)) e ∙ sym (at_drop_more (λ (xs : List Segment). operand (terms_in xs)) ss k d below)

-- the rules of the first arguments, then those of the others
pub arguments_split : (ins : List Term) (at : ℕ) (ts : List Term) (fs : List Flow)
    → argument_rules ins (placed at ts ++ fs) ≡ argument_rules ins (placed at ts) ++ argument_rules (drop (length ts) ins) fs
arguments_split ins at [] fs = ap (λ (rs : List Rule). rs ++ argument_rules ins fs) (sym (no_arguments ins [] refl))
arguments_split [] at (t ∷ ts) fs = refl
arguments_split (i ∷ ins) at (t ∷ ts) fs = ap (λ (rs : List Rule). record { at = at; wanted = i; found = t } ∷ rs) (arguments_split ins at ts fs)

-- the rules of one segment of the arguments, and those of the inputs that are left
pub arguments_step : (old new : List Rule) (ins rest : List Term) (ss : List Segment) (k n : ℕ) (d : Segment) → k < length ss
    → new ≡ old ++ argument_rules ins (placed (slice_index_or ss k d).at (listed (slice_index_or ss k d).flows)) → n ≡ length (listed (slice_index_or ss k d).flows) → rest ≡ drop n ins
    → new ++ argument_rules rest (flows_in (drop (k + 1) ss)) ≡ old ++ argument_rules ins (flows_in (drop k ss))
arguments_step old new ins rest ss k n d below is many left =
    let s = slice_index_or ss k d in
    let later = flows_in (drop (k + 1) ss) in
    ap (λ (rs : List Rule). rs ++ argument_rules rest later) is ∙ append_assoc old (argument_rules ins (placed s.at (listed s.flows))) (argument_rules rest later)
    ∙ ap (λ (rs : List Rule). old ++ rs)
    (ap (λ (ts : List Term). argument_rules ins (placed s.at (listed s.flows)) ++ argument_rules ts later) (left ∙ ap (λ m. drop m ins) many)
    ∙ sym (arguments_split ins s.at (listed s.flows) later) ∙ ap (argument_rules ins) (sym (at_drop_more flows_in ss k d below)))

-- no argument is left
pub arguments_done : (rules whole : List Rule) (ins : List Term) (ss : List Segment) (k : ℕ) → length ss ≤ k → rules ++ argument_rules ins (flows_in (drop k ss)) ≡ whole → rules ≡ whole
arguments_done rules whole ins ss k past e =
    sym (append-nil rules) ∙ ap (λ (rs : List Rule). rules ++ rs) (sym (no_arguments ins (flows_in (drop k ss)) (ap flows_in (drop_all k ss past)))) ∙ e
