-- The spans of a good table.
use Rattle.prl_base.proofs.Standard.{◌≡◌, ◌+◌, ◌/◌, ◌%◌, ◌<◌, ◌≤◌, ℕ, zero, suc, Bool, true, false, List, [], ◌∷◌, length, Some, inl, inr, refl, sym, ◌∙◌, ap, subst, arith, cond, ℤ, pos, ◌+ℤ◌, ◌-ℤ◌, ◌*ℤ◌}
use Rattle.prl_base.proofs.Standard.{slice_get, max, min, pos-*ℤ-pos, cases_lt, nat_tests, ints}
use Rattle.prl_base.specs.declared.numbers.EdgeNo.{EdgeNo}
use Rattle.prl_plan.specs.Vocabulary.{encoded_release, HasPlanFacts, IsHorizon, constants_of, PlanView, IsPlan, edge_at, IsActionOf, release_at, preceding, ComesFrom}
use Rattle.prl_plan.specs.declared.events.Action.{Action}
use Rattle.prl_plan.specs.declared.horizons.Horizon.{Horizon}
use Rattle.prl_plan.specs.declared.events.Action.TheVariants as actions
use Rattle.prl_plan.proofs.DatePeriods.{least_repeat}
use Rattle.prl_plan.proofs.Periods.{plus_mul}
use Rattle.prl_plan.proofs.StateLaws.{action_is_as_defined}
use Rattle.prl_plan.proofs.WalkLaws.{walk_preceding, operand_walks}
use Rattle.prl_tables.specs.Vocabulary.{Entry, classes, is_of, end_of, last_unit, IsGood, IsPlacing}
use Rattle.prl_tables.proofs.Shifts.{shifted, preceding_shifted, split, below}
use Rattle.prl_spans.specs.Spans.{AreSpans}
use Rattle.prl_spans.specs.TableSpans.{begin_of, first_unit, after_last_unit}

-- an entry of the class, of which this holds
record Has (entries : List Entry) (i c : ℕ) (P : Entry → Type 0) : Type 0 where
  k : ℕ
  entry : Entry
  stands : slice_get entries k ≡ Some entry
  task : entry.task.0 ≡ i
  job : entry.job ≡ c
  holds : P entry

here : (entry : Entry) (entries : List Entry) (i c : ℕ) (P : Entry → Type 0) → is_of i c entry ≡ true → P entry → Has (entry ∷ entries) i c P
here entry entries i c P is holds =
    record { k = 0; entry = entry; stands = refl; task = grind (arith, nat_tests, is); job = grind (arith, nat_tests, is); holds = holds }

later : (first : Entry) (entries : List Entry) (i c : ℕ) (P Q : Entry → Type 0) → Has entries i c P → ((entry : Entry) → P entry → Q entry) → Has (first ∷ entries) i c Q
later first entries i c P Q has more =
    record { k = suc has.k; entry = has.entry; stands = has.stands; task = has.task; job = has.job; holds = more has.entry has.holds }

-- one ends where the class does
some_last : (entries : List Entry) (i c : ℕ) → 1 ≤ end_of entries i c → Has entries i c (λ entry. entry.at + entry.units ≡ end_of entries i c)
some_last [] i c some = absurd (omega (arith, some))
some_last (entry ∷ entries) i c some = go (some_last entries i c) (is_of i c entry) refl
  where
    Its : List Entry → Type 0
    Its list = Has list i c (λ other. other.at + other.units ≡ end_of list i c)

    go : (1 ≤ end_of entries i c → Its entries) → (b : Bool) → is_of i c entry ≡ b → Its (entry ∷ entries)
    go before true is =
        let e : end_of (entry ∷ entries) i c ≡ max (entry.at + entry.units) (end_of entries i c) =
        ap (λ (b : Bool). cond b (max (entry.at + entry.units) (end_of entries i c)) (end_of entries i c)) is in
        elim (cases_lt (entry.at + entry.units) (end_of entries i c)) [
          | inl small ↦ later entry entries i c _ _ (before (omega (arith, small))) (λ other ends. omega (arith, ends, e, small))
          | inr above ↦ here entry entries i c _ is (omega (arith, e, above))
        ]
    go before false is =
        let e : end_of (entry ∷ entries) i c ≡ end_of entries i c =
        ap (λ (b : Bool). cond b (max (entry.at + entry.units) (end_of entries i c)) (end_of entries i c)) is in
        later entry entries i c _ _ (before (omega (arith, e, some))) (λ other ends. omega (arith, ends, e))

-- with an entry more the class begins no later
lower : (none : ℕ) (first : Entry) (entries : List Entry) (i c : ℕ) → begin_of none (first ∷ entries) i c ≤ begin_of none entries i c
lower none first entries i c = go (is_of i c first)
  where
    go : (b : Bool) → cond b (min first.at (begin_of none entries i c)) (begin_of none entries i c) ≤ begin_of none entries i c
    go true = omega arith
    go false = omega arith

-- no entry of the class begins earlier
no_sooner : (none : ℕ) (entries : List Entry) (i c k : ℕ) (entry : Entry) → slice_get entries k ≡ Some entry → entry.task.0 ≡ i → entry.job ≡ c →
    begin_of none entries i c ≤ entry.at
no_sooner none [] i c k entry stands task job = absurd (cc stands)
no_sooner none (first ∷ entries) i c zero entry stands task job =
    let same : first ≡ entry = cc stands in
    let at = ap (λ (x : Entry). x.at) same in
    let of : is_of i c first ≡ true = subst (λ (x : Entry). is_of i c x ≡ true) (sym same) (grind (arith, nat_tests, task, job)) in
    let e : begin_of none (first ∷ entries) i c ≡ min first.at (begin_of none entries i c) =
    ap (λ (b : Bool). cond b (min first.at (begin_of none entries i c)) (begin_of none entries i c)) of in
    omega (arith, e, at)
no_sooner none (first ∷ entries) i c (suc k) entry stands task job =
    let rest = no_sooner none entries i c k entry stands task job in omega (arith, rest, lower none first entries i c)

-- one begins where the class does
some_first : (none : ℕ) (entries : List Entry) (i c : ℕ) → begin_of none entries i c < none → Has entries i c (λ entry. entry.at ≡ begin_of none entries i c)
some_first none [] i c some = absurd (omega (arith, some))
some_first none (entry ∷ entries) i c some = go (some_first none entries i c) (is_of i c entry) refl
  where
    Its : List Entry → Type 0
    Its list = Has list i c (λ other. other.at ≡ begin_of none list i c)

    go : (begin_of none entries i c < none → Its entries) → (b : Bool) → is_of i c entry ≡ b → Its (entry ∷ entries)
    go before true is =
        let e : begin_of none (entry ∷ entries) i c ≡ min entry.at (begin_of none entries i c) =
        ap (λ (b : Bool). cond b (min entry.at (begin_of none entries i c)) (begin_of none entries i c)) is in
        elim (cases_lt (begin_of none entries i c) entry.at) [
          | inl sooner ↦ later entry entries i c _ _ (before (omega (arith, some, e, sooner))) (λ other begins. omega (arith, begins, e, sooner))
          | inr first ↦ here entry entries i c _ is (omega (arith, e, first))
        ]
    go before false is =
        let e : begin_of none (entry ∷ entries) i c ≡ begin_of none entries i c =
        ap (λ (b : Bool). cond b (min entry.at (begin_of none entries i c)) (begin_of none entries i c)) is in
        later entry entries i c _ _ (before (omega (arith, e, some))) (λ other begins. omega (arith, begins, e))

module _ (plan : PlanView) (is : IsPlan plan) (h : Horizon) (horizon : IsHorizon plan h) (facts : HasPlanFacts (constants_of plan h))
    (entries : List Entry) (good : IsGood plan entries)
    (some : (i c : ℕ) → i < length plan.graph.tasks → c < classes plan.graph i → 1 ≤ end_of entries i c)
    (placing : IsPlacing (constants_of plan h) (last_unit plan.graph entries)) where
  -- the class of a job
  abbrev class : ℕ → ℕ → ℕ
  class i n = n % classes plan.graph i

  -- where it begins
  abbrev begins : ℕ → ℕ → ℕ
  begins i n = begin_of (end_of entries i (class i n)) entries i (class i n)

  -- the entry in which a job has its last unit
  last : (i n : ℕ) → i < length plan.graph.tasks → Has entries i (class i n) (λ entry. entry.at + entry.units ≡ end_of entries i (class i n))
  last i n inside = some_last entries i (class i n) (some i (class i n) inside (below plan is i n inside))

  begins_before : (i n : ℕ) → i < length plan.graph.tasks → begins i n < end_of entries i (class i n)
  begins_before i n inside =
      let its = last i n inside in
      let units = (good.pieces its.k its.entry its.stands).units in
      let sooner = no_sooner (end_of entries i (class i n)) entries i (class i n) its.k its.entry its.stands its.task its.job in
      omega (arith, sooner, units, its.holds)

  -- and its first one
  first : (i n : ℕ) → i < length plan.graph.tasks → Has entries i (class i n) (λ entry. entry.at ≡ begins i n)
  first i n inside = some_first (end_of entries i (class i n)) entries i (class i n) (begins_before i n inside)

  released : (i n : ℕ) → i < length plan.graph.tasks → release_at plan i n ≤ first_unit plan.graph entries i n
  released i n inside =
      let its = first i n inside in
      let lies = good.pieces its.k its.entry its.stands in
      let release : release_at plan i (class i n) ≤ its.entry.at =
      subst (λ (x : ℕ). release_at plan i x ≤ its.entry.at) its.job (subst (λ (x : ℕ). release_at plan x its.entry.job ≤ its.entry.at) its.task lies.from) in
      let r = shifted plan is (encoded_release plan.graph plan.windows) (least_repeat plan.graph is.graph (encoded_release plan.graph plan.windows) is.dates.releases) i
      (class i n) (n / classes plan.graph i) inside in
      let rs = ap (λ (x : ℕ). encoded_release plan.graph plan.windows i (pos x)) (split plan is i n) in
      omega (arith, ints, release, its.holds, r, rs)

  -- along an edge the first unit of the consumer comes after the last one of the producer
  earlier : (e i j n k : ℕ) → e < length plan.graph.edges → ComesFrom (edge_at plan.graph e).from i → (edge_at plan.graph e).to.0 ≡ j →
      i < length plan.graph.tasks → j < length plan.graph.tasks → preceding (edge_at plan.graph e).ops (pos k) ≡ pos n →
      after_last_unit plan.graph entries i n ≤ first_unit plan.graph entries j k
  earlier e i j n k inside comes to from_in to_in precedes =
      let to_edge : (edge_at plan.graph e).to.0 < length plan.graph.tasks = subst (λ (z : ℕ). z < length plan.graph.tasks) (sym to) to_in in
      let moved = preceding_shifted plan is e i (k % classes plan.graph (edge_at plan.graph e).to.0) (k / classes plan.graph (edge_at plan.graph e).to.0) to_edge from_in inside comes in
      let ks = ap (λ (z : ℕ). preceding (edge_at plan.graph e).ops (pos z)) (split plan is (edge_at plan.graph e).to.0 k) in
      let z : ℤ = pos (n / classes plan.graph i) -ℤ pos (k / classes plan.graph (edge_at plan.graph e).to.0) in
      let back : z +ℤ pos (k / classes plan.graph (edge_at plan.graph e).to.0) ≡ pos (n / classes plan.graph i) = omega (arith, ints) in
      let by_class_is = ap (λ (v : ℤ). v *ℤ pos (classes plan.graph i)) back in
      let class_times = pos-*ℤ-pos (n / classes plan.graph i) (classes plan.graph i) in
      let by_hyper_is = ap (λ (v : ℤ). v *ℤ pos plan.graph.hyper) back in
      let hyper_times = pos-*ℤ-pos (n / classes plan.graph i) plan.graph.hyper in
      let its : preceding (edge_at plan.graph e).ops (pos (k % classes plan.graph (edge_at plan.graph e).to.0)) ≡ pos (n % classes plan.graph i) +ℤ (z *ℤ pos (classes plan.graph i)) =
      omega (arith, ints, moved, ks, split plan is i n, precedes, plus_mul z (k / classes plan.graph (edge_at plan.graph e).to.0) (classes plan.graph i), by_class_is, class_times) in
      let one = last i n from_in in
      let other = first (edge_at plan.graph e).to.0 k to_edge in
      let order = good.order e (k % classes plan.graph (edge_at plan.graph e).to.0) inside (below plan is (edge_at plan.graph e).to.0 k to_edge) i (n % classes plan.graph i) z comes
      (below plan is i n from_in) its
      one.k other.k one.entry other.entry one.stands other.stands (one.task, one.job) (other.task, other.job) in
      let one_units = (good.pieces one.k one.entry one.stands).units in
      let result : after_last_unit plan.graph entries i n ≤ first_unit plan.graph entries (edge_at plan.graph e).to.0 k =
      omega (arith, ints, order, one.holds, other.holds, one_units, plus_mul z (k / classes plan.graph (edge_at plan.graph e).to.0) plan.graph.hyper, by_hyper_is, hyper_times) in
      subst (λ (v : ℕ). after_last_unit plan.graph entries i n ≤ first_unit plan.graph entries v k) to result

  pub good_has_spans : AreSpans (constants_of plan h) (first_unit plan.graph entries) (after_last_unit plan.graph entries)
  good_has_spans = record {
    some = λ i n job. (let b = begins_before i n job.task in omega (arith, b));
    released = λ i n job. released i n job.task;
    due = λ i n job. (let d = placing.due i n job in omega (arith, d));
    after = λ j k place m cell i n written reads writes.
        (let r : IsActionOf plan j k (actions.Read reads.action.0 reads.action.1 m (record { 0 = cell })) =
        subst (λ (a : Action). IsActionOf plan j k a) reads.action.2 (action_is_as_defined plan j k place) in
        let w : IsActionOf plan i n (actions.Write writes.action.0 m (record { 0 = cell })) =
        subst (λ (a : Action). IsActionOf plan i n a) writes.action.1 (action_is_as_defined plan i n written) in
        let same : reads.action.1 ≡ writes.action.0 = facts.edge j k place m i n written m cell reads writes in
        let comes : ComesFrom (edge_at plan.graph reads.action.1.0).from i = subst (λ (e : EdgeNo). ComesFrom (edge_at plan.graph e.0).from i) (sym same) w.1 in
        let walks = operand_walks (edge_at plan.graph reads.action.1.0) k m r.3 in
        let p = walk_preceding (edge_at plan.graph reads.action.1.0).ops k m walks.2 in
        earlier reads.action.1.0 i j n k r.0 comes r.1 writes.job.task reads.job.task (p ∙ ap (λ (x : ℕ). pos x) w.2));
  }
