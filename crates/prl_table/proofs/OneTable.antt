-- A plan has one made table.
use Rattle.prl_base.proofs.Standard.{◌≡◌, ◌≤◌, ℕ, zero, suc, true, List, [], ◌∷◌, Option, Some, None, refl, sym, ap, ◌∙◌, inl, inr, subst, arith, slice_get}
use Rattle.prl_base.proofs.Standard.{Contains, IsPermutation, cases_order, nat_tests, Contains-permutation, IsPermutation-sym, get_or_from_slice_get, slice_get-get_or, slice_get_within}
use Rattle.prl_edf.specs.Vocabulary.{IsEdfRun, MeetsAllWindows, run_of, wcets_of}
use Rattle.prl_edf.specs.declared.runs.Timed.{Timed}
use Rattle.prl_plan.specs.Vocabulary.{constants_of, PlanView, IsPlan}
use Rattle.prl_plan.specs.declared.horizons.Horizon.{Horizon}
use Rattle.prl_tables.specs.Vocabulary.{IsGood, AreOrdered, comes_after}
use Rattle.prl_overlaps.specs.declared.entries.Entry.{Entry}
use Rattle.prl_table.specs.Vocabulary.{IsSteadyRun, cut_from, cut_to, run_until, IsMade}
use Rattle.prl_table.specs.code.MakeLaws.{MakeLaws}
use Rattle.prl_table.proofs.OneMake.{one_run}

-- the entry stands in the list
abbrev Has : List Entry → Entry → Type 0
Has xs x = (k : ℕ) × (slice_get xs k ≡ Some x)

-- no two entries begin at one tick
abbrev BeginApart : List Entry → Type 0
BeginApart xs = (k l : ℕ) (x y : Entry) → slice_get xs k ≡ Some x → slice_get xs l ≡ Some y → x.at ≡ y.at → k ≡ l

has_one : (xs : List Entry) (x : Entry) → Contains xs x → Has xs x
has_one xs x h = (h.0, slice_get-get_or xs h.0 x h.1 ∙ ap Some h.2)

contains_one : (xs : List Entry) (x : Entry) → Has xs x → Contains xs x
contains_one xs x h = (h.0, slice_get_within xs h.0 x h.1, get_or_from_slice_get xs h.0 x x h.1)

some_one : (x y : Entry) → Some x ≡ Some y → x ≡ y
some_one x y e = cc

none_some : (x : Entry) → None ≡ Some x → ⊥
none_some x e = cc

no_first : (k : ℕ) → suc k ≡ 0 → ⊥
no_first k e = omega (arith, e)

not_before : (a b : Entry) → comes_after a b ≡ true → a.at ≤ b.at
not_before a b h = grind (arith, nat_tests, h)

-- all entries after one begin no earlier
none_earlier : (x : Entry) (xs : List Entry) → AreOrdered (Some x) xs → (k : ℕ) (y : Entry) → slice_get xs k ≡ Some y → x.at ≤ y.at
none_earlier x [] ordered k y at = absurd (none_some y at)
none_earlier x (z ∷ xs) ordered zero y at =
    let first : x.at ≤ z.at = not_before x z ordered.0 in
    subst (λ (e : Entry). x.at ≤ e.at) (some_one z y at) first
none_earlier x (z ∷ xs) ordered (suc k) y at =
    let first : x.at ≤ z.at = not_before x z ordered.0 in
    let rest : z.at ≤ y.at = none_earlier z xs ordered.1 k y at in
    omega (arith, first, rest)

-- the first entry of a list begins no later than any of it
first_least : (last : Option Entry) (x : Entry) (xs : List Entry) → AreOrdered last (x ∷ xs) → (y : Entry) → Has (x ∷ xs) y → x.at ≤ y.at
first_least last x xs ordered y (zero, at) = subst (λ (e : Entry). x.at ≤ e.at) (some_one x y at) (omega arith)
first_least last x xs ordered y (suc k, at) = none_earlier x xs ordered.1 k y at

-- an entry that begins with the first one is the first one
is_first : (y : Entry) (ys : List Entry) → BeginApart (y ∷ ys) → (x : Entry) → Has (y ∷ ys) x → x.at ≡ y.at → y ≡ x
is_first y ys apart x (zero, at) same = some_one y x at
is_first y ys apart x (suc k, at) same = absurd (no_first k (apart (suc k) 0 x y at refl same))

-- what stands behind the first entry, in a list of the same first entry stands behind it
stays_behind : (x : Entry) (xs ys : List Entry) → BeginApart (x ∷ xs) → ((z : Entry) → Has (x ∷ xs) z → Has (x ∷ ys) z) → (z : Entry) → Has xs z → Has ys z
stays_behind x xs ys apart sub z h = go (sub z (suc h.0, h.1))
  where
    go : Has (x ∷ ys) z → Has ys z
    go (zero, at) = absurd (no_first h.0 (apart (suc h.0) 0 z x h.1 refl (ap (λ (e : Entry). e.at) (sym (some_one x z at)))))
    go (suc k, at) = (k, at)

behind_apart : (x : Entry) (xs : List Entry) → BeginApart (x ∷ xs) → BeginApart xs
behind_apart x xs apart k l y z at there same = let e : suc k ≡ suc l = apart (suc k) (suc l) y z at there same in omega (arith, e)

-- two lists in order that have the same entries are one
one_order : (last other : Option Entry) (xs ys : List Entry) → AreOrdered last xs → AreOrdered other ys → BeginApart xs → BeginApart ys
    → ((z : Entry) → Has xs z → Has ys z) → ((z : Entry) → Has ys z → Has xs z) → xs ≡ ys
one_order last other [] [] h k a b sub sup = refl
one_order last other [] (y ∷ ys) h k a b sub sup = absurd (none_some y (sup y (0, refl)).1)
one_order last other (x ∷ xs) [] h k a b sub sup = absurd (none_some x (sub x (0, refl)).1)
one_order last other (x ∷ xs) (y ∷ ys) h k a b sub sup =
    let low : y.at ≤ x.at = first_least other y ys k x (sub x (0, refl)) in
    let high : x.at ≤ y.at = first_least last x xs h y (sup y (0, refl)) in
    let same : y ≡ x = is_first y ys b x (sub x (0, refl)) (omega (arith, low, high)) in
    let apart : BeginApart (x ∷ ys) = subst (λ (e : Entry). BeginApart (e ∷ ys)) same b in
    let into : (z : Entry) → Has (x ∷ xs) z → Has (x ∷ ys) z = subst (λ (e : Entry). (z : Entry) → Has (x ∷ xs) z → Has (e ∷ ys) z) same sub in
    let back : (z : Entry) → Has (x ∷ ys) z → Has (x ∷ xs) z = subst (λ (e : Entry). (z : Entry) → Has (e ∷ ys) z → Has (x ∷ xs) z) same sup in
    let rest : xs ≡ ys = one_order (Some x) (Some y) xs ys h.1 k.1 (behind_apart x xs a) (behind_apart y ys b) (stays_behind x xs ys a into) (stays_behind x ys xs apart back) in
    ap (λ (l : List Entry). x ∷ l) rest ∙ ap (λ (e : Entry). e ∷ ys) (sym same)

-- the entries of a good table begin apart
pub good_apart : (plan : PlanView) (entries : List Entry) → IsGood plan entries → BeginApart entries
good_apart plan entries good k l x y at there same = elim (cases_order k l) [
  | inl e ↦ e
  | inr other ↦
      let one = (good.pieces k x at).units in
      let two = (good.pieces l y there).units in
      absurd (good.apart k l (record {
        one = x;
        other = y;
        first = at;
        second = there;
        a = 0;
        b = 0;
        overlap = record { starts = omega (arith, same, two); ends = omega (arith, same, one) };
        differ = λ e _. elim other [ inl less ↦ omega (arith, less, e) | inr more ↦ omega (arith, more, e) ];
      }))
]

module _ (law : MakeLaws) (good : (plan : PlanView) (horizon : Horizon) → IsPlan plan → horizon.until ≡ run_until plan → (run : ℕ → Option (ℕ × ℕ)) →
    IsEdfRun (constants_of plan horizon) (wcets_of plan) run → MeetsAllWindows (constants_of plan horizon) (wcets_of plan) run →
    IsSteadyRun plan run → (entries : List Entry) → IsPermutation (cut_to plan run (cut_from plan) plan.graph.hyper) entries → IsGood plan entries)
    (plan : PlanView) (is_plan : IsPlan plan) where
  begin_apart : (entries : List Entry) → IsMade plan entries → BeginApart entries
  begin_apart entries h =
      good_apart plan entries
      (good plan h.within is_plan h.run.until (run_of h.timed.pieces) h.run.run.plain.edf h.run.run.met h.steady entries h.cut)

  -- one table is made
  pub one_table : (a b : List Entry) → IsMade plan a → IsMade plan b → a ≡ b
  one_table a b h k =
      let cut : Timed → List Entry = λ t. cut_to plan (run_of t.pieces) (cut_from plan) plan.graph.hyper in
      let same : h.timed ≡ k.timed = one_run law plan is_plan h.within k.within h.timed k.timed h.run k.run in
      let here : IsPermutation (cut k.timed) a = subst (λ (t : Timed). IsPermutation (cut t) a) same h.cut in
      let all = cut k.timed in
      one_order None None a b h.ordered k.ordered (begin_apart a h) (begin_apart b k)
      (λ z has. has_one b z (Contains-permutation all b z k.cut (Contains-permutation a all z (IsPermutation-sym all a here) (contains_one a z has))))
      (λ z has. has_one a z (Contains-permutation all a z here (Contains-permutation b all z (IsPermutation-sym all b k.cut) (contains_one b z has))))
