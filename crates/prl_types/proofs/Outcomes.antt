-- A program has one outcome.
use Rattle.prl_base.proofs.Standard.{◌≡◌, ◌<◌, ◌++◌, ◌∙◌, ◌⊎◌, ℕ, suc, List, [], ◌∷◌, length, refl, sym, ap, subst, inl, inr, Option, Some, None, Result, Ok, Err, arith, cases_lt, slice_get_cases}
use Rattle.std.specs.List.{slice_get}
use Rattle.prl_base.specs.declared.values.Ty.{Ty}
use Rattle.prl_ast.specs.Trees.{ProgramTree}
use Rattle.prl_names.specs.Checks.{names_of}
use Rattle.prl_names.specs.declared.checks.NameFault.{NameFault}
use Rattle.prl_names.specs.declared.checks.NameFault.TheVariants as naming
use Rattle.prl_types.specs.Vocabulary.{TypeFault, arity_faults, first_at, Owned, parameters_of, count_of, rules_of, HasFreeType, IsOutcome, of_names}
use Rattle.prl_types.specs.declared.faults.TypeFault.TheVariants as faults
use Rattle.prl_terms.specs.Vocabulary.{Choice, type_in, MeetsAll, IsMismatch, IsFree, AreTypes}
use Rattle.prl_terms.specs.declared.terms.Rule.{Rule}
use Rattle.prl_terms.proofs.Meeting.{meets_first, meets_second}

-- no choice meets the rules up to a contradiction
no_choice : (rules : List Rule) (at : ℕ) (wanted found : Ty) → (m : IsMismatch rules at wanted found) → (c : Choice) → MeetsAll c m.earlier → type_in c m.rule.wanted ≡ type_in c m.rule.found → ⊥
no_choice rules at wanted found m c before same = m.contradicts.differ (sym (m.contradicts.wanted_is c before) ∙ same ∙ m.contradicts.found_is c before)

no_choice_of_all : (rules : List Rule) (at : ℕ) (wanted found : Ty) → IsMismatch rules at wanted found → (c : Choice) → MeetsAll c rules → ⊥
no_choice_of_all rules at wanted found m c all =
    let split : MeetsAll c (m.earlier ++ (m.rule ∷ m.later)) = subst (λ (rs : List Rule). MeetsAll c rs) m.whole all in
    no_choice rules at wanted found m c (meets_first c m.earlier (m.rule ∷ m.later) split) (meets_second c m.earlier (m.rule ∷ m.later) split).0

-- of two places in a list, one is the other or stands before it
abbrev Splits : List Rule → List Rule → Rule → Rule → Type 0
Splits e f r s = ((e ≡ f) × (r ≡ s)) ⊎ (((m : List Rule) × (f ≡ e ++ (r ∷ m))) ⊎ ((m : List Rule) × (e ≡ f ++ (s ∷ m))))

splits : (e f : List Rule) (r s : Rule) (l k : List Rule) → e ++ (r ∷ l) ≡ f ++ (s ∷ k) → Splits e f r s
splits [] [] r s l k h = let same : r ≡ s = cc in inl (refl, same)
splits [] (y ∷ f) r s l k h = let same : y ≡ r = cc in inr (inl (f, ap (λ (x : Rule). x ∷ f) same))
splits (x ∷ e) [] r s l k h = let same : x ≡ s = cc in inr (inr (e, ap (λ (y : Rule). y ∷ e) same))
splits (x ∷ e) (y ∷ f) r s l k h =
    let head : x ≡ y = cc in
    let rest : e ++ (r ∷ l) ≡ f ++ (s ∷ k) = cc in
    elim (splits e f r s l k rest) [
      | inl both ↦ inl ((let tail : e ≡ f = both.0 in cc), both.1)
      | inr other ↦ elim other [
        | inl g ↦ inr (inl (g.0, (let tail : f ≡ e ++ (r ∷ g.0) = g.1 in let whole : y ∷ f ≡ x ∷ (e ++ (r ∷ g.0)) = cc in whole)))
        | inr g ↦ inr (inr (g.0, (let tail : e ≡ f ++ (s ∷ g.0) = g.1 in let whole : x ∷ e ≡ y ∷ (f ++ (s ∷ g.0)) = cc in whole)))
      ]
    ]

not_later : (rules : List Rule) (at at' : ℕ) (w f w' f' : Ty) → (m : IsMismatch rules at w f) → (n : IsMismatch rules at' w' f') → (l : List Rule) → n.earlier ≡ m.earlier ++ (m.rule ∷ l) → ⊥
not_later rules at at' w f w' f' m n l e =
    let one = n.contradicts.choice in
    let split : MeetsAll one (m.earlier ++ (m.rule ∷ l)) = subst (λ (rs : List Rule). MeetsAll one rs) e n.contradicts.meets in
    no_choice rules at w f m one (meets_first one m.earlier (m.rule ∷ l) split) (meets_second one m.earlier (m.rule ∷ l) split).0

-- a fault of types with its parts
abbrev mismatch : ℕ → Ty → Ty → Result (ℕ × List Ty) TypeFault
mismatch at wanted found = Err (faults.Mismatch at wanted found)

same_mismatch : (rules : List Rule) (at at' : ℕ) (w f w' f' : Ty) → (m : IsMismatch rules at w f) → (n : IsMismatch rules at' w' f') → (m.earlier ≡ n.earlier) × (m.rule ≡ n.rule) → mismatch at w f ≡ mismatch at' w' f'
same_mismatch rules at at' w f w' f' m n both =
    let a = m.contradicts in
    let b = n.contradicts in
    let place : at ≡ at' = a.place ∙ ap (λ (r : Rule). r.at) both.1 ∙ sym b.place in
    let before : MeetsAll a.choice n.earlier = subst (λ (rs : List Rule). MeetsAll a.choice rs) both.0 a.meets in
    let wanted : w ≡ w' = sym (a.wanted_is a.choice a.meets) ∙ ap (λ (r : Rule). type_in a.choice r.wanted) both.1 ∙ b.wanted_is a.choice before in
    let found : f ≡ f' = sym (a.found_is a.choice a.meets) ∙ ap (λ (r : Rule). type_in a.choice r.found) both.1 ∙ b.found_is a.choice before in
    cc

one_mismatch : (rules : List Rule) (at at' : ℕ) (w f w' f' : Ty) → IsMismatch rules at w f → IsMismatch rules at' w' f' → mismatch at w f ≡ mismatch at' w' f'
one_mismatch rules at at' w f w' f' m n = elim (splits m.earlier n.earlier m.rule n.rule m.later n.later (sym m.whole ∙ n.whole)) [
  | inl both ↦ same_mismatch rules at at' w f w' f' m n both
  | inr other ↦ elim other [
    | inl g ↦ absurd (not_later rules at at' w f w' f' m n g.0 g.1)
    | inr g ↦ absurd (not_later rules at' at w' f' w f n m g.0 g.1)
  ]
]

one_free : (rules : List Rule) (k j : ℕ) → IsFree rules k → IsFree rules j → k ≡ j
one_free rules k j f g = elim (cases_lt k j) [
  | inl below ↦ absurd (f.differ (g.earlier k below f.one f.other f.one_meets f.other_meets))
  | inr past ↦ elim (cases_lt j k) [
    | inl below ↦ absurd (g.differ (f.earlier j below g.one g.other g.one_meets g.other_meets))
    | inr over ↦ omega arith
  ]
]

same_lists : (xs ys : List Ty) → length xs ≡ length ys → ((k : ℕ) → k < length xs → slice_get xs k ≡ slice_get ys k) → xs ≡ ys
same_lists [] [] e h = refl
same_lists [] (y ∷ ys) e h = absurd (omega arith)
same_lists (x ∷ xs) [] e h = absurd (omega arith)
same_lists (x ∷ xs) (y ∷ ys) e h =
    let first : Some x ≡ Some y = h 0 (omega arith) in
    let head : x ≡ y = cc in
    let tail : xs ≡ ys = same_lists xs ys (omega arith) (λ k lt. h (suc k) (omega arith)) in
    cc

one_typing : (rules : List Rule) (count : ℕ) (xs ys : List Ty) → AreTypes rules count xs → AreTypes rules count ys → xs ≡ ys
one_typing rules count xs ys a b = same_lists xs ys (a.number ∙ sym b.number)
    (λ k lt. let inside : k < count = subst (λ (n : ℕ). k < n) a.number lt in a.forced a.choice k a.meets inside ∙ sym (b.forced a.choice k a.meets inside))

types_or_free : (rules : List Rule) (count : ℕ) (xs : List Ty) (k : ℕ) → AreTypes rules count xs → k < count → IsFree rules k → ⊥
types_or_free rules count xs k a lt f =
    let same : Some (f.one k) ≡ Some (f.other k) = sym (a.forced f.one k f.one_meets lt) ∙ a.forced f.other k f.other_meets lt in
    let equal : f.one k ≡ f.other k = cc in
    f.differ equal

number_inside : (p : ProgramTree) (k : ℕ) (o : Owned) → slice_get (parameters_of p) k ≡ Some o → k < count_of p
number_inside p k o e = let cases = (slice_get_cases (parameters_of p) k).1 in elim cases [
  | inl here ↦ here.1
  | inr past ↦ absurd (let f = sym past.1 ∙ e in cc)
]

abbrev free_fault : List ℕ → List ℕ → Result (ℕ × List Ty) TypeFault
free_fault node name = Err (faults.TypeFree node name)

one_free_fault : (p : ProgramTree) (main : Option (List ℕ)) (n f n' f' : List ℕ) → HasFreeType p main n f → HasFreeType p main n' f' → free_fault n f ≡ free_fault n' f'
one_free_fault p main n f n' f' a b =
    let number : a.number ≡ b.number = one_free (rules_of p) a.number b.number a.first b.first in
    let owned : Some a.owned ≡ Some b.owned = sym a.is ∙ ap (λ (k : ℕ). slice_get (parameters_of p) k) number ∙ b.is in
    let same : a.owned ≡ b.owned = cc in
    let node : n ≡ n' = a.node_is ∙ ap (λ (o : Owned). o.node) same ∙ sym b.node_is in
    let name : f ≡ f' = a.name_is ∙ ap (λ (o : Owned). o.param.name) same ∙ sym b.name_is in
    cc

abbrev Outcome : Type 0
Outcome = Result (ℕ × List Ty) TypeFault

-- names first
by_names : (p : ProgramTree) (main : Option (List ℕ)) (e : NameFault) → names_of p main ≡ Err e → (r : Outcome) → IsOutcome p main r → r ≡ Err (of_names e)
by_names p main e is (Ok t) h = absurd (let f = sym is ∙ h.names in cc)
by_names p main e is (Err (faults.Twice name)) h = let f = sym is ∙ h in let same : e ≡ naming.Twice name = cc in ap (λ (x : NameFault). Err (of_names x)) (sym same)
by_names p main e is (Err (faults.Unknown name)) h = let f = sym is ∙ h in let same : e ≡ naming.Unknown name = cc in ap (λ (x : NameFault). Err (of_names x)) (sym same)
by_names p main e is (Err (faults.Undefined name)) h = let f = sym is ∙ h in let same : e ≡ naming.Undefined name = cc in ap (λ (x : NameFault). Err (of_names x)) (sym same)
by_names p main e is (Err (faults.Recursive name)) h = let f = sym is ∙ h in let same : e ≡ naming.Recursive name = cc in ap (λ (x : NameFault). Err (of_names x)) (sym same)
by_names p main e is (Err faults.NoMain) h = let f = sym is ∙ h in let same : e ≡ naming.NoMain = cc in ap (λ (x : NameFault). Err (of_names x)) (sym same)
by_names p main e is (Err (faults.Arity at)) h = absurd (let f = sym is ∙ h.names in cc)
by_names p main e is (Err (faults.Mismatch at wanted found)) h = absurd (let f = sym is ∙ h.names in cc)
by_names p main e is (Err (faults.TypeFree node name)) h = absurd (let f = sym is ∙ h.names in cc)
by_names p main e is (Err faults.Memory) h = absurd h

none_first : (p : ProgramTree) (at : ℕ) → arity_faults p ≡ [] → first_at (arity_faults p) ≡ Some at → ⊥
none_first p at e f = let g : first_at (arity_faults p) ≡ None = ap first_at e in let h = sym g ∙ f in cc

-- then arity
by_arity : (p : ProgramTree) (main : Option (List ℕ)) (node at : ℕ) → names_of p main ≡ Ok node → first_at (arity_faults p) ≡ Some at → (r : Outcome) → IsOutcome p main r → r ≡ Err (faults.Arity at)
by_arity p main node at is first (Ok t) h = absurd (none_first p at h.arity first)
by_arity p main node at is first (Err (faults.Twice name)) h = absurd (let f = sym is ∙ h in cc)
by_arity p main node at is first (Err (faults.Unknown name)) h = absurd (let f = sym is ∙ h in cc)
by_arity p main node at is first (Err (faults.Undefined name)) h = absurd (let f = sym is ∙ h in cc)
by_arity p main node at is first (Err (faults.Recursive name)) h = absurd (let f = sym is ∙ h in cc)
by_arity p main node at is first (Err faults.NoMain) h = absurd (let f = sym is ∙ h in cc)
by_arity p main node at is first (Err (faults.Arity other)) h = let f = sym h.first ∙ first in let same : other ≡ at = cc in ap (λ (x : ℕ). Err (faults.Arity x)) same
by_arity p main node at is first (Err (faults.Mismatch place wanted found)) h = absurd (none_first p at h.arity first)
by_arity p main node at is first (Err (faults.TypeFree n name)) h = absurd (none_first p at h.arity first)
by_arity p main node at is first (Err faults.Memory) h = absurd h

-- then types
data Settled (p : ProgramTree) (main : Option (List ℕ)) (node : ℕ) (r : Outcome) : Type 0 where
  typed : (types : List Ty) → r ≡ Ok (node, types) → AreTypes (rules_of p) (count_of p) types → Settled p main node r
  contradicting : (at : ℕ) (wanted found : Ty) → r ≡ mismatch at wanted found → IsMismatch (rules_of p) at wanted found → Settled p main node r
  free : (n f : List ℕ) → r ≡ free_fault n f → HasFreeType p main n f → Settled p main node r

by_types : (p : ProgramTree) (main : Option (List ℕ)) (node : ℕ) → names_of p main ≡ Ok node → first_at (arity_faults p) ≡ None → (r : Outcome) → IsOutcome p main r → Settled p main node r
by_types p main node is none (Ok t) h = let f = sym is ∙ h.names in let same : node ≡ t.0 = cc in typed t.1 (let whole : Ok t ≡ Ok (node, t.1) = ap (λ (k : ℕ). Ok (k, t.1)) (sym same) in whole) h.only
by_types p main node is none (Err (faults.Twice name)) h = absurd (let f = sym is ∙ h in cc)
by_types p main node is none (Err (faults.Unknown name)) h = absurd (let f = sym is ∙ h in cc)
by_types p main node is none (Err (faults.Undefined name)) h = absurd (let f = sym is ∙ h in cc)
by_types p main node is none (Err (faults.Recursive name)) h = absurd (let f = sym is ∙ h in cc)
by_types p main node is none (Err faults.NoMain) h = absurd (let f = sym is ∙ h in cc)
by_types p main node is none (Err (faults.Arity at)) h = absurd (let f = sym none ∙ h.first in cc)
by_types p main node is none (Err (faults.Mismatch at wanted found)) h = contradicting at wanted found refl h.first
by_types p main node is none (Err (faults.TypeFree n name)) h = free n name refl h
by_types p main node is none (Err faults.Memory) h = absurd h

one_settled : (p : ProgramTree) (main : Option (List ℕ)) (node : ℕ) (r s : Outcome) → Settled p main node r → Settled p main node s → r ≡ s
one_settled p main node r s (typed xs e a) (typed ys f b) = e ∙ ap (λ (ts : List Ty). Ok (node, ts)) (one_typing (rules_of p) (count_of p) xs ys a b) ∙ sym f
one_settled p main node r s (typed xs e a) (contradicting at w f is m) = absurd (no_choice_of_all (rules_of p) at w f m a.choice a.meets)
one_settled p main node r s (typed xs e a) (free n f is h) = absurd (types_or_free (rules_of p) (count_of p) xs h.number a (number_inside p h.number h.owned h.is) h.first)
one_settled p main node r s (contradicting at w f is m) (typed xs e a) = absurd (no_choice_of_all (rules_of p) at w f m a.choice a.meets)
one_settled p main node r s (contradicting at w f is m) (contradicting at' w' f' is' m') = is ∙ one_mismatch (rules_of p) at at' w f w' f' m m' ∙ sym is'
one_settled p main node r s (contradicting at w f is m) (free n g e h) = absurd (no_choice_of_all (rules_of p) at w f m h.first.one h.first.one_meets)
one_settled p main node r s (free n f is h) (typed xs e a) = absurd (types_or_free (rules_of p) (count_of p) xs h.number a (number_inside p h.number h.owned h.is) h.first)
one_settled p main node r s (free n g e h) (contradicting at w f is m) = absurd (no_choice_of_all (rules_of p) at w f m h.first.one h.first.one_meets)
one_settled p main node r s (free n f is h) (free n' f' is' h') = is ∙ one_free_fault p main n f n' f' h h' ∙ sym is'

after_names : (p : ProgramTree) (main : Option (List ℕ)) (r s : Outcome) → IsOutcome p main r → IsOutcome p main s → (node : ℕ) → names_of p main ≡ Ok node → (o : Option ℕ) → first_at (arity_faults p) ≡ o → r ≡ s
after_names p main r s h k node is (Some at) first = by_arity p main node at is first r h ∙ sym (by_arity p main node at is first s k)
after_names p main r s h k node is None first = one_settled p main node r s (by_types p main node is first r h) (by_types p main node is first s k)

at_names : (p : ProgramTree) (main : Option (List ℕ)) (r s : Outcome) → IsOutcome p main r → IsOutcome p main s → (o : Result ℕ NameFault) → names_of p main ≡ o → r ≡ s
at_names p main r s h k (Ok node) is = after_names p main r s h k node is (first_at (arity_faults p)) refl
at_names p main r s h k (Err e) is = by_names p main e is r h ∙ sym (by_names p main e is s k)

pub one_outcome : (p : ProgramTree) (main : Option (List ℕ)) (r s : Result (ℕ × List Ty) TypeFault) → IsOutcome p main r → IsOutcome p main s → r ≡ s
one_outcome p main r s h k = at_names p main r s h k (names_of p main) refl
