-- Steps of an order under way.
use Rattle.prl_base.proofs.Standard.{◌≡◌, ◌<◌, ◌+◌, ◌-◌, ◌*◌, ℕ, zero, suc, Bool, true, false, List, [], ◌∷◌, ◌++◌, length, set, get_or, slice_get, Some, refl, sym, ◌∙◌, ap, subst, arith, inl, inr}
use Rattle.prl_base.proofs.Standard.{⊎_elim, length-set, false≢true, cases_lt, length_push, slice_get_within}
use Rattle.prl_base.specs.declared.numbers.FlowNo.{FlowNo}
use Rattle.prl_flow.proofs.Lists.{slice_get_push, element_at}
use Rattle.prl_flow.specs.Vocabulary.{FlatProgram, Leads, once, then}
use Rattle.prl_causal.specs.Vocabulary.{Source, AreSeen, IsMarked, IsWhole, marked_count, IsSorted, AreSources, Names, UsesBy, HasWayBack}
use Rattle.prl_causal.proofs.Arriving.{seen_more}
use Rattle.prl_causal.proofs.Lists.{push_cases, push_keeps, equal_or_not, mark_kept, mark_cases}
use Rattle.prl_causal.proofs.Placing.{one_more, some_clear, whole_part, names_of_use}
use Rattle.prl_causal.proofs.Searching.{use_of_names}

module _ (p : FlatProgram) (all : List Source) (order : List FlowNo) (placed opened : List Bool) where
  pub on_top : (seen stack : List ℕ) (top : ℕ) → IsSorted p all order placed opened seen (stack ++ top ∷ []) → top < length all
  on_top seen stack top are = are.below (length stack) top (slice_get_push stack top)

  pub used_below : (seen stack : List ℕ) (top used : ℕ) (d : Source) → AreSources p all → IsSorted p all order placed opened seen (stack ++ top ∷ []) → Names p (get_or all top d) used
      → used < length all
  used_below seen stack top used d sources are names = sources.within top used (use_of_names p all d top used (on_top seen stack top are) names)

  -- where the flow on top is placed, it can be taken off
  pub taken_off : (seen stack : List ℕ) (top : ℕ) → IsSorted p all order placed opened seen (stack ++ top ∷ []) → IsMarked placed top
      → IsSorted p all order placed opened seen stack
  taken_off seen stack top are marked = record {
    part = are.part;
    counts = are.counts;
    apps = are.apps;
    len = are.len;
    opens = are.opens;
    looked = λ i h. ⊎_elim
        (λ a. inl a)
        (λ b. ⊎_elim
        (λ old. inr (record { index = b.index; found = old }))
        (λ last. inl (subst (λ x. IsMarked placed x) last.1 marked))
        (push_cases stack top b.index i b.found))
        (are.looked i h);
    below = λ k x h. are.below k x (push_keeps stack top k x h);
    way = λ k x y g h. are.way k x y (push_keeps stack top k x g) (push_keeps stack top (k + 1) y h);
  }

  -- the flow on top is placed
  pub placed_top : (d : Source) (seen seen' stack : List ℕ) (top : ℕ) → IsSorted p all order placed opened seen (stack ++ top ∷ [])
      → top < length placed → get_or placed top false ≡ false → ((j : ℕ) → Names p (get_or all top d) j → IsMarked placed j) → AreSeen p placed seen' → length seen' ≡ length p.apps
      → IsSorted p all (order ++ record { 0 = top } ∷ []) (set placed top true) opened seen' (stack ++ top ∷ [])
  placed_top d seen seen' stack top are below clear ready counts apps = record {
    part = one_more (UsesBy p all) order placed top are.part below clear (λ j u. ready j (names_of_use p all d top j u));
    counts = seen_more p placed seen' top below counts;
    apps = apps;
    len = length-set placed top true ∙ are.len;
    opens = are.opens;
    looked = λ i h. ⊎_elim (λ a. inl (mark_kept placed top i below a)) (λ b. inr b) (are.looked i h);
    below = are.below;
    way = are.way;
  }

  -- a flow that the one on top uses is looked at
  pub opened_used : (d : Source) (seen seen' stack : List ℕ) (top used : ℕ) → IsSorted p all order placed opened seen (stack ++ top ∷ [])
      → top < length all → used < length all → Names p (get_or all top d) used → AreSeen p placed seen' → length seen' ≡ length p.apps
      → IsSorted p all order placed (set opened used true) seen' ((stack ++ top ∷ []) ++ used ∷ [])
  opened_used d seen seen' stack top used are low below names counts apps =
      let old : List ℕ = stack ++ top ∷ [] in
      record {
        part = are.part;
        counts = counts;
        apps = apps;
        len = are.len;
        opens = length-set opened used true ∙ are.opens;
        looked = λ i h. ⊎_elim
            (λ same. inr (record { index = length old; found = subst (λ x. slice_get (old ++ used ∷ []) (length old) ≡ Some x) (sym same) (slice_get_push old used) }))
            (λ before. ⊎_elim (λ a. inl a) (λ b. inr (record { index = b.index; found = push_keeps old used b.index i b.found })) (are.looked i before))
            (mark_cases opened used i h);
        below = λ k x h. ⊎_elim (λ a. are.below k x a) (λ b. subst (λ y. y < length all) b.1 below) (push_cases old used k x h);
        way = λ k x y g h. ⊎_elim
            (λ a. ⊎_elim
            (λ b. are.way k x y b a)
            (λ b. absurd (let within = slice_get_within old (k + 1) y a in omega (arith, b.0, within)))
            (push_cases old used k x g))
            (λ a.
            (let len = length_push stack top in
            let last : k ≡ length stack = omega (arith, a.0, len) in
            let short : k < length old = omega (arith, last, len) in
            ⊎_elim
            (λ b. ⊎_elim
            (λ c. absurd (let within = slice_get_within stack k x c in omega (arith, within, last)))
            (λ c. subst (λ z. UsesBy p all x z) a.1 (subst (λ z. UsesBy p all z used) c.1 (use_of_names p all d top used low names)))
            (push_cases stack top k x b))
            (λ b. absurd (omega (arith, short, b.0)))
            (push_cases old used k x g)))
            (push_cases old used (k + 1) y h);
      }

-- along the stack uses lead from each flow to those after it
chain : (U : ℕ → ℕ → Type 0) (stack : List ℕ) → ((k x y : ℕ) → slice_get stack k ≡ Some x → slice_get stack (k + 1) ≡ Some y → U x y)
    → (d k m x y : ℕ) → m ≡ (k + 1) + d → slice_get stack k ≡ Some x → slice_get stack m ≡ Some y → Leads U x y
chain U stack way zero k m x y at g h =
    let next : m ≡ k + 1 = omega (arith, at) in
    once x y (way k x y g (subst (λ n. slice_get stack n ≡ Some y) next h))
chain U stack way (suc d) k m x y at g h =
    let below : k + 1 < length stack = omega (arith, at, slice_get_within stack m y h) in
    let z = element_at stack (k + 1) below in
    let rest : m ≡ ((k + 1) + 1) + d = omega (arith, at) in
    then x z.0 y (way k x z.0 g z.1) (chain U stack way d (k + 1) m z.0 y rest z.1 h)

module _ (p : FlatProgram) (all : List Source) (order : List FlowNo) (placed opened : List Bool) where
  -- where a flow that the one on top uses was looked at and is not placed, there is a way back
  pub way_back : (d : Source) (seen stack : List ℕ) (top used : ℕ) → IsSorted p all order placed opened seen (stack ++ top ∷ [])
      → top < length all → Names p (get_or all top d) used → get_or placed used false ≡ false → IsMarked opened used → HasWayBack (UsesBy p all)
  way_back d seen stack top used are low names clear marked =
      let U = UsesBy p all in
      let old : List ℕ = stack ++ top ∷ [] in
      let used_by : U top used = use_of_names p all d top used low names in
      ⊎_elim
      (λ a. absurd (false≢true (sym clear ∙ a)))
      (λ b. ⊎_elim
      (λ lower.
      (let far : length stack ≡ (b.index + 1) + (length stack - (b.index + 1)) = omega (arith, lower) in
      (top, then top used top used_by (chain U old are.way (length stack - (b.index + 1)) b.index (length stack) used top far b.found (slice_get_push stack top)))))
      (λ not_lower. ⊎_elim
      (λ c. absurd (let within = slice_get_within stack b.index used c in omega (arith, within, not_lower)))
      (λ c. (top, subst (λ z. Leads U top z) (sym c.1) (once top used used_by)))
      (push_cases stack top b.index used b.found))
      (cases_lt b.index (length stack)))
      (are.looked used marked)

  nowhere : (k x : ℕ) → slice_get [] k ≡ Some x → ⊥
  nowhere k x h = cc

  -- the first flow is looked at
  pub begun : (seen : List ℕ) (from : ℕ) → IsSorted p all order placed opened seen [] → from < length all
      → IsSorted p all order placed (set opened from true) seen (from ∷ [])
  begun seen from are below = record {
    part = are.part;
    counts = are.counts;
    apps = are.apps;
    len = are.len;
    opens = length-set opened from true ∙ are.opens;
    looked = λ i h. ⊎_elim
        (λ same. inr (record { index = 0; found = subst (λ x. slice_get (from ∷ []) 0 ≡ Some x) (sym same) refl }))
        (λ before. ⊎_elim (λ a. inl a) (λ b. absurd (nowhere b.index i b.found)) (are.looked i before))
        (mark_cases opened from i h);
    below = λ k x h. ⊎_elim (λ a. absurd (nowhere k x a)) (λ b. subst (λ y. y < length all) b.1 below) (push_cases [] from k x h);
    way = λ k x y g h. absurd (let within = slice_get_within (from ∷ []) (k + 1) y h in omega (arith, within));
  }

  -- where all was looked at and the stack is empty, all is placed
  pub ended : (seen : List ℕ) → IsSorted p all order placed opened seen [] → ((i : ℕ) → i < length all → IsMarked opened i) → IsWhole (UsesBy p all) (length all) order
  ended seen are marked =
      let full : marked_count placed ≡ length placed = ⊎_elim
      (λ same. same)
      (λ short.
      (let clear = some_clear placed short in
      let below : clear.0 < length all = rw (sym are.len) clear.1 in
      ⊎_elim
      (λ a. absurd (false≢true (sym clear.2 ∙ a)))
      (λ b. absurd (nowhere b.index clear.0 b.found))
      (are.looked clear.0 (marked clear.0 below))))
      (equal_or_not (marked_count placed) (length placed)) in
      subst (λ n. IsWhole (UsesBy p all) n order) are.len (whole_part (UsesBy p all) order placed are.part (sym are.part.count ∙ full))

-- each step leaves fewer
pub fewer_to_open : (n opened opened' order order' old new : ℕ) → opened' ≡ opened + 1 → opened < n → order' ≡ order → new ≡ old + 1
    → (2 * (n - opened') + (n - order')) + new < (2 * (n - opened) + (n - order)) + old
fewer_to_open n opened opened' order order' old new o low r s =
    let one : n - opened ≡ (n - opened') + 1 = omega (arith, o, low) in
    let same : n - order' ≡ n - order = ap (λ k. n - k) r in
    omega (arith, one, same, s)

pub fewer_to_place : (n opened order order' old new : ℕ) → order' ≡ order + 1 → order < n → old ≡ new + 1
    → (2 * (n - opened) + (n - order')) + new < (2 * (n - opened) + (n - order)) + old
fewer_to_place n opened order order' old new o low s =
    let one : n - order ≡ (n - order') + 1 = omega (arith, o, low) in
    omega (arith, one, s)
