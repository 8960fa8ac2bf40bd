-- A flat program has no cycle, or the label that tells of one.
use Rattle.prl_base.proofs.Standard.{◌≡◌, ◌<◌, ◌≤◌, ◌⊎◌, ℕ, zero, suc, Bool, true, false, List, length, Option, Some, slice_get, refl, ap, subst, arith, inl, inr, ⊎_elim, cases_lt, length-map}
use Rattle.prl_base.proofs.Standard.{slice_get_within}
use Rattle.prl_base.specs.declared.numbers.FlowNo.{FlowNo}
use Rattle.prl_flow.specs.Vocabulary.{FlatProgram, IsFlat, HasNoCycle, IsCyclic, IsCycleLabel, IsOnCycle, IsOrder, named, unnamed, is_made}
use Rattle.prl_flow.specs.declared.programs.Flow.{Flow}
use Rattle.prl_causal.specs.code.Sources.{all_inside, all_undelayed, inside_of, undelayed_of}
use Rattle.prl_causal.proofs.Meanings.{cyclic_flow, inside_sources, no_cycle, on_inside, on_none, on_undelayed, order_is, undelayed_sources}
use Rattle.prl_causal.proofs.Reached.{leads_or_not}
use Rattle.prl_causal.proofs.Runs.{order_or_back}

true_false : (b : Bool) → b ≡ true → b ≡ false → ⊥
true_false b h k = cc

some_some : {A : Type 0} (r : Option A) (a b : A) → r ≡ Some a → r ≡ Some b → a ≡ b
some_some r a b h k = cc

-- the lowest number of which something holds
record IsLowest (P : ℕ → Type 0) : Type 0 where
  number : ℕ
  holds : P number
  lowest : (j : ℕ) → j < number → P j → ⊥

abbrev IsTold : (ℕ → Type 0) → Type 0
IsTold P = (i : ℕ) → P i ⊎ (P i → ⊥)

lowest_below : (P : ℕ → Type 0) → IsTold P → (n : ℕ) → IsLowest P ⊎ ((i : ℕ) → i < n → P i → ⊥)
lowest_below P told zero = inr (λ i low. absurd (omega (arith, low)))
lowest_below P told (suc n) =
    ⊎_elim
    (λ found. inl found)
    (λ none. ⊎_elim
    (λ here. inl (record { number = n; holds = here; lowest = none }))
    (λ not. inr (λ i low is. ⊎_elim
    (λ lower. none i lower is)
    (λ last. (let same : i ≡ n = omega (arith, low, last) in not (subst (λ x. P x) same is)))
    (cases_lt i n)))
    (told n))
    (lowest_below P told n)

lowest : (P : ℕ → Type 0) → IsTold P → (i : ℕ) → P i → IsLowest P
lowest P told i is =
    ⊎_elim
    (λ found. found)
    (λ none. absurd (none i (omega arith) is))
    (lowest_below P told (suc i))

module _ (p : FlatProgram) where
  -- flows at one index are one
  one_flow : (i j : ℕ) (x y : Flow) → IsCyclic p i x → IsCyclic p j y → i ≡ j → x ≡ y
  one_flow i j x y cx cy e = some_some (slice_get p.flows j) x y (subst (λ (k : ℕ). slice_get p.flows k ≡ Some x) e cx.found) cy.found

  not_below : (i j : ℕ) (x y : Flow) → IsCyclic p i x → is_made x.label ≡ false
      → ((k : ℕ) (other : Flow) → IsCyclic p k other → k < j → is_made other.label ≡ true) → i < j → ⊥
  not_below i j x y cx name low less = true_false (is_made x.label) (low i x cx less) name

  -- a flat program with cycles is told by one label
  pub one_label : (a b : List ℕ) → IsCycleLabel p a → IsCycleLabel p b → a ≡ b
  one_label a b (named i x cx nx lx) (named j y cy ny ly) = elim (cases_lt i j) [
    | inl less ↦ absurd (not_below i j x y cx nx ly less)
    | inr more ↦ elim (cases_lt j i) [
      | inl less ↦ absurd (not_below j i y x cy ny lx less)
      | inr back ↦ ap (λ (f : Flow). f.label) (one_flow i j x y cx cy (omega (arith, more, back)))
    ]
  ]
  one_label a b (named i x cx nx lx) (unnamed j y cy ly) = absurd (true_false (is_made x.label) (ly i x cx).1 nx)
  one_label a b (unnamed i x cx lx) (named j y cy ny ly) = absurd (true_false (is_made y.label) (lx j y cy).1 ny)
  one_label a b (unnamed i x cx lx) (unnamed j y cy ly) =
      let above = (ly i x cx).0 in ap (λ (f : Flow). f.label) (one_flow i j x y cx cy (omega (arith, (lx j y cy).0, above)))

  -- where there is a label there is a cycle
  pub no_label : (label : List ℕ) → HasNoCycle p → IsCycleLabel p label → ⊥
  no_label label none (named i x cx nx lx) = none i cx.cycle
  no_label label none (unnamed i x cx lx) = none i cx.cycle

  -- a flow on a cycle with a name, at this number
  record IsNamedOn (i : ℕ) : Type 0 where
    flow : Flow
    cyclic : IsCyclic p i flow
    name : is_made flow.label ≡ false

  module _ (flat : IsFlat p) where
    on_told_below : (i : ℕ) → i < length p.flows → IsOnCycle p i ⊎ (IsOnCycle p i → ⊥)
    on_told_below i below =
        let count_now : length (all_undelayed p) ≡ length p.flows = length-map p.flows (λ f. undelayed_of f.def) in
        let count_in : length (all_inside p) ≡ length p.flows = length-map p.flows (λ f. inside_of f.def) in
        let low_now : i < length (all_undelayed p) = rw count_now below in
        let low_in : i < length (all_inside p) = rw count_in below in
        ⊎_elim
        (λ now. inl (on_undelayed p (all_undelayed p) i refl now))
        (λ not_now. ⊎_elim
        (λ inside. inl (on_inside p (all_inside p) i refl inside))
        (λ not_inside. inr (on_none p (all_undelayed p) (all_inside p) i refl refl not_now not_inside))
        (leads_or_not p (all_inside p) (inside_sources p (all_inside p) flat refl) i low_in))
        (leads_or_not p (all_undelayed p) (undelayed_sources p (all_undelayed p) flat refl) i low_now)

    on_told : IsTold (IsOnCycle p)
    on_told i =
        ⊎_elim
        (λ below. on_told_below i below)
        (λ past. inr (λ on. absurd (let at = cyclic_flow p i on in let within = slice_get_within p.flows i at.0 at.1 in omega (arith, within, past))))
        (cases_lt i (length p.flows))

    made_or_named : (i : ℕ) (flow : Flow) → IsCyclic p i flow → (b : Bool) → is_made flow.label ≡ b → IsNamedOn i ⊎ (IsNamedOn i → ⊥)
    made_or_named i flow cyclic false is = inl (record { flow = flow; cyclic = cyclic; name = is })
    made_or_named i flow cyclic true is =
        inr (λ on. true_false (is_made flow.label) is (subst (λ f. is_made f.label ≡ false) (one_flow i i on.flow flow on.cyclic cyclic refl) on.name))

    named_told : IsTold IsNamedOn
    named_told i =
        ⊎_elim
        (λ on. (let at = cyclic_flow p i on in made_or_named i at.0 (record { found = at.1; cycle = on }) (is_made at.0.label) refl))
        (λ not. inr (λ on. not on.cyclic.cycle))
        (on_told i)

    made : (j : ℕ) (other : Flow) → IsCyclic p j other → (IsNamedOn j → ⊥) → is_made other.label ≡ true
    made j other cyclic not =
        elim (is_made other.label) as (λ b. is_made other.label ≡ b → b ≡ true) [
          | true ↦ λ e. refl
          | false ↦ λ e. absurd (not (record { flow = other; cyclic = cyclic; name = e }))
        ] refl

    label_of_named : IsLowest IsNamedOn → (label : List ℕ) × IsCycleLabel p label
    label_of_named low =
        (low.holds.flow.label, named low.number low.holds.flow low.holds.cyclic low.holds.name (λ j other cyclic less. made j other cyclic (low.lowest j less)))

    label_of_unnamed : ((i : ℕ) → i < length p.flows → IsNamedOn i → ⊥) → IsLowest (IsOnCycle p) → (label : List ℕ) × IsCycleLabel p label
    label_of_unnamed none low =
        let at = cyclic_flow p low.number low.holds in (
          at.0.label,
          unnamed low.number at.0 (record { found = at.1; cycle = low.holds })
              (λ j other cyclic.
              (let within = slice_get_within p.flows j other cyclic.found in
              let above : low.number ≤ j = ⊎_elim (λ less. absurd (low.lowest j less cyclic.cycle)) (λ not. omega (arith, not)) (cases_lt j low.number) in
              (above, made j other cyclic (none j within)))),
        )

    -- where a flow is on a cycle, there is the label that tells of one
    label_of_cycle : (i : ℕ) → IsOnCycle p i → (label : List ℕ) × IsCycleLabel p label
    label_of_cycle i on =
        ⊎_elim
        (λ low. label_of_named low)
        (λ none. label_of_unnamed none (lowest (IsOnCycle p) on_told i on))
        (lowest_below IsNamedOn named_told (length p.flows))

    pub acyclic_or_label : HasNoCycle p ⊎ ((label : List ℕ) × IsCycleLabel p label)
    acyclic_or_label =
        let now = all_undelayed p in
        let inside = all_inside p in
        ⊎_elim
        (λ back. inr (label_of_cycle back.0 (on_undelayed p now back.0 refl back.1)))
        (λ by_date. ⊎_elim
        (λ back. inr (label_of_cycle back.0 (on_inside p inside back.0 refl back.1)))
        (λ by_step. inl (no_cycle p now inside by_date.0 by_step.0 refl refl by_date.1 by_step.1))
        (order_or_back p inside (inside_sources p inside flat refl)))
        (order_or_back p now (undelayed_sources p now flat refl))

    pub acyclic_order : HasNoCycle p → (order : List FlowNo) × IsOrder p order
    acyclic_order none =
        let now = all_undelayed p in
        ⊎_elim
        (λ back. absurd (none back.0 (on_undelayed p now back.0 refl back.1)))
        (λ whole. (whole.0, order_is p now whole.0 refl whole.1))
        (order_or_back p now (undelayed_sources p now flat refl))
