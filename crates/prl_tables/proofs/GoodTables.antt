-- The last units of a good table place its jobs.
use Rattle.prl_base.proofs.Standard.{◌≡◌, ◌+◌, ◌/◌, ◌%◌, ◌<◌, ◌≤◌, ℕ, suc, Bool, true, false, List, [], ◌∷◌, length, Some, inl, inr, refl, sym, ◌∙◌, ap, subst, arith, cond, ℤ, pos, ◌+ℤ◌, ◌-ℤ◌, ◌*ℤ◌}
use Rattle.prl_base.proofs.Standard.{slice_get, max, pos-*ℤ-pos, cases_lt, nat_tests, ints}
use Rattle.prl_base.specs.declared.numbers.EdgeNo.{EdgeNo}
use Rattle.prl_plan.specs.Vocabulary.{encoded_release, encoded_deadline, HasPlanFacts, IsHorizon, constants_of, PlanView, IsPlan, edge_at, IsActionOf, release_at, deadline_at, preceding, ComesFrom}
use Rattle.prl_plan.specs.declared.events.Action.{Action}
use Rattle.prl_plan.specs.declared.horizons.Horizon.{Horizon}
use Rattle.prl_plan.specs.declared.events.Action.TheVariants as actions
use Rattle.prl_plan.proofs.DatePeriods.{least_repeat, greatest_repeat}
use Rattle.prl_plan.proofs.Periods.{plus_mul}
use Rattle.prl_plan.proofs.RoundPeriods.{task_is}
use Rattle.prl_plan.proofs.StateLaws.{action_is_as_defined}
use Rattle.prl_plan.proofs.WalkLaws.{walk_preceding, operand_walks}
use Rattle.prl_tables.specs.Vocabulary.{Entry, classes, is_of, units_of, end_of, last_unit, IsGood, IsPlacing}
use Rattle.prl_tables.proofs.Shifts.{shifted, preceding_shifted, split, below}

pub of_both : (i c : ℕ) (entry : Entry) → is_of i c entry ≡ true → (entry.task.0 ≡ i) × (entry.job ≡ c)
of_both i c entry is = (grind (arith, nat_tests), grind (arith, nat_tests))

-- an entry of the class of which this holds
pub record HasEntry (entries : List Entry) (i c : ℕ) (P : Entry → Type 0) : Type 0 where
  pub k : ℕ
  pub entry : Entry
  pub stands : slice_get entries k ≡ Some entry
  pub task : entry.task.0 ≡ i
  pub job : entry.job ≡ c
  pub holds : P entry

-- it is the first entry
pub entry_here : (entry : Entry) (entries : List Entry) (i c : ℕ) (P : Entry → Type 0) → is_of i c entry ≡ true → P entry → HasEntry (entry ∷ entries) i c P
entry_here entry entries i c P is holds =
    record { k = 0; entry = entry; stands = refl; task = (of_both i c entry is).0; job = (of_both i c entry is).1; holds = holds }

-- it is a later one
pub entry_later : (first : Entry) (entries : List Entry) (i c : ℕ) (P Q : Entry → Type 0) → HasEntry entries i c P → ((entry : Entry) → P entry → Q entry) → HasEntry (first ∷ entries) i c Q
entry_later first entries i c P Q has more =
    record { k = suc has.k; entry = has.entry; stands = has.stands; task = has.task; job = has.job; holds = more has.entry has.holds }

-- an entry of the class that ends where it does
abbrev pub Is : List Entry → ℕ → ℕ → Type 0
Is entries i c = HasEntry entries i c (λ entry. entry.at + entry.units ≡ end_of entries i c)

-- a class that has units has an end
pub some_end : (entries : List Entry) (i c : ℕ) → 1 ≤ units_of entries i c → 1 ≤ end_of entries i c
some_end [] i c some = absurd (omega (arith, some))
some_end (entry ∷ entries) i c some = go (some_end entries i c) (is_of i c entry) refl
  where
    go : (1 ≤ units_of entries i c → 1 ≤ end_of entries i c) → (b : Bool) → is_of i c entry ≡ b → 1 ≤ end_of (entry ∷ entries) i c
    go before true is =
        let e : end_of (entry ∷ entries) i c ≡ max (entry.at + entry.units) (end_of entries i c) =
        ap (λ (b : Bool). cond b (max (entry.at + entry.units) (end_of entries i c)) (end_of entries i c)) is in
        let u : units_of (entry ∷ entries) i c ≡ entry.units + units_of entries i c = ap (λ (b : Bool). cond b entry.units 0 + units_of entries i c) is in
        elim (cases_lt 0 entry.units) [
          | inl units ↦ omega (arith, e, units)
          | inr without ↦ (let rest = before (omega (arith, u, some, without)) in omega (arith, e, rest))
        ]
    go before false is =
        let e : end_of (entry ∷ entries) i c ≡ end_of entries i c =
        ap (λ (b : Bool). cond b (max (entry.at + entry.units) (end_of entries i c)) (end_of entries i c)) is in
        let u : units_of (entry ∷ entries) i c ≡ 0 + units_of entries i c = ap (λ (b : Bool). cond b entry.units 0 + units_of entries i c) is in
        let rest = before (omega (arith, u, some)) in omega (arith, e, rest)

-- and an entry that ends there
pub last_entry : (entries : List Entry) (i c : ℕ) → 1 ≤ end_of entries i c → Is entries i c
last_entry [] i c some = absurd (omega (arith, some))
last_entry (entry ∷ entries) i c some = go (last_entry entries i c) (is_of i c entry) refl
  where
    later : Is entries i c → end_of (entry ∷ entries) i c ≡ end_of entries i c → Is (entry ∷ entries) i c
    later is e = entry_later entry entries i c _ _ is (λ other last. omega (arith, last, e))

    go : (1 ≤ end_of entries i c → Is entries i c) → (b : Bool) → is_of i c entry ≡ b → Is (entry ∷ entries) i c
    go before true is =
        let e : end_of (entry ∷ entries) i c ≡ max (entry.at + entry.units) (end_of entries i c) =
        ap (λ (b : Bool). cond b (max (entry.at + entry.units) (end_of entries i c)) (end_of entries i c)) is in
        elim (cases_lt (entry.at + entry.units) (end_of entries i c)) [
          | inl small ↦ later (before (omega (arith, small))) (omega (arith, e, small))
          | inr above ↦ entry_here entry entries i c _ is (omega (arith, e, above))
        ]
    go before false is =
        let e : end_of (entry ∷ entries) i c ≡ end_of entries i c =
        ap (λ (b : Bool). cond b (max (entry.at + entry.units) (end_of entries i c)) (end_of entries i c)) is in
        later (before (omega (arith, e, some))) e

module _ (plan : PlanView) (is : IsPlan plan) (h : Horizon) (horizon : IsHorizon plan h) (facts : HasPlanFacts (constants_of plan h))
    (entries : List Entry) (good : IsGood plan entries) where
  -- the entry in which a job has its last unit
  ends : (i n : ℕ) → i < length plan.graph.tasks → Is entries i (n % classes plan.graph i)
  ends i n inside =
      let wcet = (task_is plan.graph is.graph i inside).wcet.0 in
      last_entry entries i (n % classes plan.graph i) (some_end entries i (n % classes plan.graph i) (omega (arith, good.whole i (n % classes plan.graph i) inside (below plan is i n inside), wcet)))

  within : (i n : ℕ) → i < length plan.graph.tasks →
      (release_at plan i n ≤ last_unit plan.graph entries i n) × (last_unit plan.graph entries i n < deadline_at plan i n)
  within i n inside =
      let its = ends i n inside in
      let lies = good.pieces its.k its.entry its.stands in
      let units = lies.units in
      let end = its.holds in
      let release : release_at plan i (n % classes plan.graph i) ≤ its.entry.at =
      subst (λ (x : ℕ). release_at plan i x ≤ its.entry.at) its.job (subst (λ (x : ℕ). release_at plan x its.entry.job ≤ its.entry.at) its.task lies.from) in
      let deadline : its.entry.at + its.entry.units ≤ deadline_at plan i (n % classes plan.graph i) =
      subst (λ (x : ℕ). its.entry.at + its.entry.units ≤ deadline_at plan i x) its.job (subst (λ (x : ℕ). its.entry.at + its.entry.units ≤ deadline_at plan x its.entry.job) its.task lies.to) in
      let r = shifted plan is (encoded_release plan.graph plan.windows) (least_repeat plan.graph is.graph (encoded_release plan.graph plan.windows) is.dates.releases) i
      (n % classes plan.graph i) (n / classes plan.graph i) inside in
      let d = shifted plan is (encoded_deadline plan.graph plan.windows) (greatest_repeat plan.graph is.graph (encoded_deadline plan.graph plan.windows) is.dates.deadlines) i
      (n % classes plan.graph i) (n / classes plan.graph i) inside in
      let rs = ap (λ (x : ℕ). encoded_release plan.graph plan.windows i (pos x)) (split plan is i n) in
      let ds = ap (λ (x : ℕ). encoded_deadline plan.graph plan.windows i (pos x)) (split plan is i n) in
      (omega (arith, ints, release, end, units, r, rs), omega (arith, ints, deadline, end, units, d, ds))

  earlier : (e i j n k : ℕ) → e < length plan.graph.edges → ComesFrom (edge_at plan.graph e).from i → (edge_at plan.graph e).to.0 ≡ j →
      i < length plan.graph.tasks → j < length plan.graph.tasks → preceding (edge_at plan.graph e).ops (pos k) ≡ pos n →
      last_unit plan.graph entries i n < last_unit plan.graph entries j k
  earlier e i j n k inside comes to from_in to_in precedes =
      let to_edge : (edge_at plan.graph e).to.0 < length plan.graph.tasks = subst (λ (z : ℕ). z < length plan.graph.tasks) (sym to) to_in in
      let moved = preceding_shifted plan is e i (k % classes plan.graph (edge_at plan.graph e).to.0) (k / classes plan.graph (edge_at plan.graph e).to.0) to_edge from_in inside comes in
      let ks = ap (λ (z : ℕ). preceding (edge_at plan.graph e).ops (pos z)) (split plan is (edge_at plan.graph e).to.0 k) in
      let z : ℤ = pos (n / classes plan.graph i) -ℤ pos (k / classes plan.graph (edge_at plan.graph e).to.0) in
      let back : z +ℤ pos (k / classes plan.graph (edge_at plan.graph e).to.0) ≡ pos (n / classes plan.graph i) = omega (arith, ints) in
      let by_class_is = ap (λ (v : ℤ). v *ℤ pos (classes plan.graph i)) back in
      let class_times = pos-*ℤ-pos (n / classes plan.graph i) (classes plan.graph i) in
      let by_hyper_is = ap (λ (v : ℤ). v *ℤ pos plan.graph.hyper) back in
      let hyper_times = pos-*ℤ-pos (n / classes plan.graph i) plan.graph.hyper in
      let its : preceding (edge_at plan.graph e).ops (pos (k % classes plan.graph (edge_at plan.graph e).to.0)) ≡ pos (n % classes plan.graph i) +ℤ (z *ℤ pos (classes plan.graph i)) =
      omega (arith, ints, moved, ks, split plan is i n, precedes, plus_mul z (k / classes plan.graph (edge_at plan.graph e).to.0) (classes plan.graph i), by_class_is, class_times) in
      let one = ends i n from_in in
      let other = ends (edge_at plan.graph e).to.0 k to_edge in
      let order = good.order e (k % classes plan.graph (edge_at plan.graph e).to.0) inside (below plan is (edge_at plan.graph e).to.0 k to_edge) i (n % classes plan.graph i) z comes
      (below plan is i n from_in) its
      one.k other.k one.entry other.entry one.stands other.stands (one.task, one.job) (other.task, other.job) in
      let one_units = (good.pieces one.k one.entry one.stands).units in
      let other_units = (good.pieces other.k other.entry other.stands).units in
      let result : last_unit plan.graph entries i n < last_unit plan.graph entries (edge_at plan.graph e).to.0 k =
      omega (arith, ints, order, one.holds, other.holds, one_units, other_units, plus_mul z (k / classes plan.graph (edge_at plan.graph e).to.0) plan.graph.hyper, by_hyper_is, hyper_times) in
      subst (λ (v : ℕ). last_unit plan.graph entries i n < last_unit plan.graph entries v k) to result

  pub good_is_placing : IsPlacing (constants_of plan h) (last_unit plan.graph entries)
  good_is_placing = record {
    released = λ i n job. (within i n job.task).0;
    due = λ i n job. (within i n job.task).1;
    after = λ j k place m slot i n written reads writes.
        (let r : IsActionOf plan j k (actions.Read reads.action.0 reads.action.1 m (record { 0 = slot })) =
        subst (λ (a : Action). IsActionOf plan j k a) reads.action.2 (action_is_as_defined plan j k place) in
        let w : IsActionOf plan i n (actions.Write writes.action.0 m (record { 0 = slot })) =
        subst (λ (a : Action). IsActionOf plan i n a) writes.action.1 (action_is_as_defined plan i n written) in
        let same : reads.action.1 ≡ writes.action.0 = facts.edge j k place m i n written m slot reads writes in
        let comes : ComesFrom (edge_at plan.graph reads.action.1.0).from i = subst (λ (e : EdgeNo). ComesFrom (edge_at plan.graph e.0).from i) (sym same) w.1 in
        let walks = operand_walks (edge_at plan.graph reads.action.1.0) k m r.3 in
        let p = walk_preceding (edge_at plan.graph reads.action.1.0).ops k m walks.2 in
        earlier reads.action.1.0 i j n k r.0 comes r.1 writes.job.task reads.job.task (p ∙ ap (λ (x : ℕ). pos x) w.2));
  }
