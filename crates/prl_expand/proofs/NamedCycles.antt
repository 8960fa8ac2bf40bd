-- Each cycle of the flows of an expansion passes a flow with a name.
use Rattle.prl_base.proofs.Standard.{◌≡◌, ◌<◌, ◌⊎◌, ℕ, Bool, true, false, List, [], length, Option, Some, slice_get, refl, sym, ap, ◌∙◌, inl, inr, subst, arith, AllByRecursion, range_with_len}
use Rattle.prl_base.proofs.Standard.{length-map}
use Rattle.prl_ast.specs.InRange as ranges
use Rattle.prl_ast.specs.Trees.{ProgramTree}
use Rattle.prl_base.specs.declared.values.Ty.{Ty}
use Rattle.prl_flow.specs.Vocabulary.{FlatProgram, Rule, IsCycleLabel, IsCyclic, Leads, NamesInside, NamesNow, UsesInside, UsesNow, is_made, named, once, then, unnamed}
use Rattle.prl_flow.specs.declared.programs.App.{App}
use Rattle.prl_flow.specs.declared.programs.Flow.{Flow}
use Rattle.prl_names.proofs.Right as right_names
use Rattle.prl_types.specs.Typing.{IsTyped}
use Rattle.prl_causal.specs.Vocabulary.{flows_in, imports_in, inputs_of}
use Rattle.prl_expand.specs.Vocabulary.{HasName, Passes, PassesName, Expansion, IsExpansion, Numbered, all_numbered, entered_apps, flat_of, sensors_from}
use Rattle.prl_expand.proofs.Earlier.{Counted, UsesEarlier, counted_range, entered_use, no_start}
use Rattle.prl_expand.proofs.FlatRules.{entered_tells, sensors_count}
use Rattle.prl_expand.proofs.Formed.{apps_at, flows_there, number_at}
use Rattle.prl_expand.proofs.Lists.{at_place, some_inner}
use Rattle.prl_expand.proofs.Numbers.{entered_numbered, numbers_of}
use Rattle.prl_expand.proofs.Sound.{IsSound, sound_from}
use Rattle.prl_expand.proofs.Sources.{mapped_from}
use Rattle.prl_expand.proofs.WellDefined.{HaveApps}

-- a flow without a name uses flows that are made before it, and flows with a name
abbrev Falls : FlatProgram → (ℕ → ℕ → Type 0) → Type 0
Falls flat U = (i j : ℕ) (flow : Flow) → slice_get flat.flows i ≡ Some flow → is_made flow.label ≡ true → U i j → (j < i) ⊎ HasName flat j

-- a flow that uses another one is there
abbrev AreThere : FlatProgram → (ℕ → ℕ → Type 0) → Type 0
AreThere flat U = (i j : ℕ) → U i j → (flow : Flow) × (slice_get flat.flows i ≡ Some flow)

module _ (flat : FlatProgram) (U : ℕ → ℕ → Type 0) (are : AreThere flat U) (falls : Falls flat U) where
  start : (i k : ℕ) → Leads U i k → (flow : Flow) × (slice_get flat.flows i ≡ Some flow)
  start i k (once a b step) = are i k step
  start i k (then a b c step rest) = are i b step

  -- a way from a flow without a name passes one with a name, or ends below where it began
  walk : (i k : ℕ) (way : Leads U i k) (flow : Flow) → slice_get flat.flows i ≡ Some flow → is_made flow.label ≡ true → PassesName flat way ⊎ (k < i)
  walk i k (once a b step) flow found made = elim (falls i k flow found made step) [ inl less ↦ inr less | inr name ↦ inl (k, refl, name) ]
  walk i k (then a b c step rest) flow found made =
      elim (falls i b flow found made step) [
        | inr name ↦ inl (b, inl refl, name)
        | inl less ↦ onward (start b k rest) less (walk b k rest)
      ]
    where
      onward : (f : Flow) × (slice_get flat.flows b ≡ Some f) → b < i
          → ((x : Flow) → slice_get flat.flows b ≡ Some x → is_made x.label ≡ true → PassesName flat rest ⊎ (k < b)) → PassesName flat (then i b k step rest) ⊎ (k < i)
      onward f less later =
          elim (is_made f.0.label) as (λ (m : Bool). is_made f.0.label ≡ m → PassesName flat (then i b k step rest) ⊎ (k < i)) [
            | false ↦ λ e. inl (b, inl refl, record { flow = f.0; found = f.1; named = e })
            | true ↦ λ e. elim (later f.0 f.1 e) [ inl passes ↦ inl (passes.0, inr passes.1, passes.2) | inr below ↦ inr (omega (arith, below, less)) ]
          ] refl

  -- the last flow of a way is one that it passes
  ends : (i k : ℕ) (way : Leads U i k) → Passes way k
  ends i k (once a b step) = refl
  ends i k (then a b c step rest) = inr (ends b k rest)

  pub cycle_named : (i : ℕ) (way : Leads U i i) → PassesName flat way
  cycle_named i way =
      let f = start i i way in
      elim (is_made f.0.label) as (λ (m : Bool). is_made f.0.label ≡ m → PassesName flat way) [
        | false ↦ λ e. (i, ends i i way, record { flow = f.0; found = f.1; named = e })
        | true ↦ λ e. elim (walk i i way f.0 f.1 e) [ inl passes ↦ passes | inr below ↦ absurd (omega (arith, below)) ]
      ] refl

  -- from what a way passes the rest of it leads on
  rest_of : (i k j : ℕ) (way : Leads U i k) → Passes way j → (j ≡ k) ⊎ Leads U j k
  rest_of i k j (once a b step) at = inl at
  rest_of i k j (then a b c step rest) at = elim at [ inl here ↦ inr (subst (λ x. Leads U x k) (sym here) rest) | inr later ↦ rest_of b k j rest later ]

  front_of : (i k j : ℕ) (way : Leads U i k) → Passes way j → Leads U i j
  front_of i k j (once a b step) at = subst (Leads U i) (sym at) (once i k step)
  front_of i k j (then a b c step rest) at =
      elim at [ inl here ↦ subst (Leads U i) (sym here) (once i b step) | inr later ↦ then i b j step (front_of b k j rest later) ]

  joined : (i j k : ℕ) → Leads U i j → Leads U j k → Leads U i k
  joined i j k (once a b step) way = then i j k step way
  joined i j k (then a b c step rest) way = then i b k step (joined b j k rest way)

  -- what a cycle passes is on a cycle
  pub round : (i j : ℕ) (way : Leads U i i) → Passes way j → Leads U j j
  round i j way at =
      elim (rest_of i i j way at) [
        | inl same ↦ subst (λ x. Leads U x x) (sym same) way
        | inr rest ↦ joined j i j rest (front_of i i j way at)
      ]

module _ (p : ProgramTree) (asked : Option (List ℕ)) (main : ℕ) (tys : List Ty) (range : ranges.IsInRange p) (typed : IsTyped p asked main tys) (e : Expansion)
    (expansion : IsExpansion p main e) where
  abbrev flat : FlatProgram
  flat = flat_of p tys main e

  abbrev fs : List Numbered
  fs = all_numbered p tys main e

  sound : IsSound p
  sound = sound_from p (right_names.named p asked main typed.names).nodes typed.arity

  uses : AllByRecursion (UsesEarlier p tys flat) fs
  uses =
      let sources = sensors_from 0 (inputs_of e) in
      let enough = sensors_count 0 (inputs_of e) in
      let us : List App = entered_apps p main e in
      let tells = entered_tells (λ (r : Rule ℕ ℕ). Unit {0}) p tys sound [] main sources _ e expansion.text enough refl in
      let app_numbers : imports_in e ≡ range_with_len 0 (length us) = expansion.imports ∙ ap (range_with_len 0) tells.count in
      let apps : HaveApps p tys flat (imports_in e) us = subst (λ (ks : List ℕ). HaveApps p tys flat ks us) (sym app_numbers) (apps_at p tys flat [] 0 us refl refl) in
      let counted : Counted 0 (flows_in e) = subst (Counted 0) (sym expansion.flows) (counted_range 0 (length (flows_in e))) in
      (entered_use p tys flat sound range [] no_start main sources e expansion.text enough (flows_there p tys main sound e expansion) apps 0 counted).0

  earlier : (i j : ℕ) (flow : Flow) → slice_get flat.flows i ≡ Some flow → is_made flow.label ≡ true → NamesNow flat flow.def j ⊎ NamesInside flow.def j → (j < i) ⊎ HasName flat j
  earlier i j flow found made names =
      let numbers : numbers_of fs ≡ flows_in e = entered_numbered p tys sound [] main (sensors_from 0 (inputs_of e)) e expansion.text (sensors_count 0 (inputs_of e)) in
      let number : length fs ≡ length (flows_in e) = sym (length-map fs (λ (f : Numbered). f.0)) ∙ ap length numbers in
      let g = mapped_from (λ (f : Numbered). f.1) fs i flow found in
      let at : g.0.0 ≡ i = number_at 0 fs i i g.0 (numbers ∙ expansion.flows ∙ ap (range_with_len 0) (sym number)) g.1 (omega arith) in
      let made_there : is_made g.0.1.label ≡ true = subst (λ (f : Flow). is_made f.label ≡ true) (sym g.2) made in
      let names_there : NamesNow flat g.0.1.def j ⊎ NamesInside g.0.1.def j =
      subst (λ (f : Flow). NamesNow flat f.def j ⊎ NamesInside f.def j) (sym g.2) names in
      subst (λ m. (j < m) ⊎ HasName flat j) at ((at_place (UsesEarlier p tys flat) fs i g.0 uses g.1) made_there j names_there)

  now_falls : Falls flat (UsesNow flat)
  now_falls i j flow found made step =
      earlier i j flow found made (inl (subst (λ (f : Flow). NamesNow flat f.def j) (some_inner step.flow flow (sym step.found ∙ found)) step.names))

  inside_falls : Falls flat (UsesInside flat)
  inside_falls i j flow found made step =
      earlier i j flow found made (inr (subst (λ (f : Flow). NamesInside f.def j) (some_inner step.flow flow (sym step.found ∙ found)) step.names))

  now_there : AreThere flat (UsesNow flat)
  now_there i j step = (step.flow, step.found)

  inside_there : AreThere flat (UsesInside flat)
  inside_there i j step = (step.flow, step.found)

  pub now_named : (i : ℕ) (way : Leads (UsesNow flat) i i) → PassesName flat way
  now_named = cycle_named flat (UsesNow flat) now_there now_falls

  pub inside_named : (i : ℕ) (way : Leads (UsesInside flat) i i) → PassesName flat way
  inside_named = cycle_named flat (UsesInside flat) inside_there inside_falls

  -- some flow on a cycle has a name
  cyclic_named : (i : ℕ) (flow : Flow) → IsCyclic flat i flow → (j : ℕ) × (other : Flow) × IsCyclic flat j other × (is_made other.label ≡ false)
  cyclic_named i flow is =
      elim is.cycle [
        | inl way ↦
            let n = now_named i way in
            (n.0, n.2.flow, record { found = n.2.found; cycle = inl (round flat (UsesNow flat) now_there now_falls i n.0 way n.1) }, n.2.named)
        | inr way ↦
            let n = inside_named i way in
            (n.0, n.2.flow, record { found = n.2.found; cycle = inr (round flat (UsesInside flat) inside_there inside_falls i n.0 way n.1) }, n.2.named)
      ]

  -- so a cycle is told by a name
  pub label_named : (label : List ℕ) → IsCycleLabel flat label → is_made label ≡ false
  label_named label (named i flow cyclic name lowest) = name
  label_named label (unnamed i flow cyclic lowest) =
      let other = cyclic_named i flow cyclic in
      absurd (both (is_made other.1.label) (lowest other.0 other.1 other.2).1 other.3)
    where
      both : (b : Bool) → b ≡ true → b ≡ false → ⊥
      both b x y = cc
