use Rattle.prl_base.proofs.Standard.{◌≡◌, ◌*◌, ◌<◌, ◌≤◌, ℕ, [], length, sym, subst, arith, if◌then◌else◌, slice_index_or, is_some}
use Rattle.prl_plan.specs.Vocabulary.{no_used, place_of, plan_of, CountsUsed, sum_below, PlanView, IsPlan, place_on, both_writes}
use Rattle.prl_plan.proofs.PlanParts.{used_ordered}
use Rattle.prl_plan.proofs.SumLaws.{two_if, sum_same, writes_counted, length_writes}
use Rattle.prl_plan.proofs.plans.Plan.writes_on.Goals as goal

pub used_before-requires-clause-order : goal.used_before-requires-clause-order
used_before-requires-clause-order c =
    used_ordered (plan_of c.self.inside.graph c.self.inside.words.of c.self.inside.dates c.self.inside.cells) c.self.invariant c.args.e.0
    (subst (λ (p : PlanView). c.args.e.0 < length p.graph.edges) (sym c.self.view_is) c.requires.edge)

counted : (inner plan : PlanView) → inner ≡ plan → IsPlan inner → (e jobs count : ℕ) → e < length plan.graph.edges → CountsUsed (slice_index_or inner.used e no_used) jobs count →
    (2 * count ≡ sum_below (λ n. length (if is_some (place_on plan e n) then both_writes plan e n else [])) jobs) × (count ≤ jobs)
counted inner plan same is e jobs count inside counts =
    let edge : e < length inner.graph.edges = subst (λ (p : PlanView). e < length p.graph.edges) (sym same) inside in
    let w = writes_counted (slice_index_or inner.used e no_used) (used_ordered inner is e edge) jobs count counts in
    let lengths = sum_same (λ n. length (if is_some (place_on inner e n) then both_writes inner e n else [])) (λ n. two_if (place_of (slice_index_or inner.used e no_used) n)) jobs
    (λ k _. length_writes inner e k (place_on inner e k)) in
    let here : 2 * count ≡ sum_below (λ n. length (if is_some (place_on inner e n) then both_writes inner e n else [])) jobs = (let a = w.0 in omega (arith, a, lengths)) in
    (subst (λ (p : PlanView). 2 * count ≡ sum_below (λ n. length (if is_some (place_on p e n) then both_writes p e n else [])) jobs) same here, w.1)

pub overflow_mul-result : goal.overflow_mul-result
overflow_mul-result c =
    let few = (counted (plan_of c.self.inside.graph c.self.inside.words.of c.self.inside.dates c.self.inside.cells) c.args.self.now c.self.view_is c.self.invariant c.args.e.0 c.args.jobs c.used_before.result
    c.requires.edge c.used_before.ensures).1 in
    omega (arith, few, c.requires.jobs)

pub returns-clause-count : goal.returns-clause-count
returns-clause-count c =
    (counted (plan_of c.self.inside.graph c.self.inside.words.of c.self.inside.dates c.self.inside.cells) c.args.self.now c.self.view_is c.self.invariant c.args.e.0 c.args.jobs c.used_before.result
    c.requires.edge c.used_before.ensures).0

pub returns-clause-small : goal.returns-clause-small
returns-clause-small c =
    let few = (counted (plan_of c.self.inside.graph c.self.inside.words.of c.self.inside.dates c.self.inside.cells) c.args.self.now c.self.view_is c.self.invariant c.args.e.0 c.args.jobs c.used_before.result
    c.requires.edge c.used_before.ensures).1 in
    omega (arith, few)
