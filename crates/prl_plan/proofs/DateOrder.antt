-- The order of encoded dates, over all whole numbers.
use Rattle.prl_base.proofs.Standard.{◌<◌, ℕ, length, refl, subst, arith, ℤ, pos, ◌+ℤ◌, ◌≤ℤ◌, ◌<ℤ◌, ints}
use Rattle.prl_plan.specs.Vocabulary.{Edge, TaskGraph, Job, task_at, release_of, IsWellFormed, IsEdge, Precedes, PrecedesAlong, encoded_release, encoded_deadline, PlanView, IsPlan}
use Rattle.prl_plan.proofs.Periods.{plus_mul}
use Rattle.prl_plan.proofs.RoundLaws.{source_inside}
use Rattle.prl_plan.proofs.RoundPeriods.{task_is}

-- jobs that precede one another are of tasks of the graph
both_inside : (graph : TaskGraph) → IsWellFormed graph → (before after : Job) → Precedes graph before after →
    (before.task < length graph.tasks) × (after.task < length graph.tasks)
both_inside graph good before after h =
    let edge : Edge = h.1 in
    let along : PrecedesAlong graph edge before after = h.3 in
    let is : IsEdge graph edge = good.edges h.0 edge h.2 in
    (source_inside graph edge is edge.from refl before.task along.from, subst (λ (i : ℕ). i < length graph.tasks) along.to is.to)

module _ (plan : PlanView) (is : IsPlan plan) where
  pub next_released : (i : ℕ) (m : ℤ) → i < length plan.graph.tasks →
      encoded_deadline plan.graph plan.windows i m ≤ℤ encoded_release plan.graph plan.windows i (m +ℤ pos 1)
  next_released i m inside =
      let above : release_of (task_at plan.graph i) (m +ℤ pos 1) ≤ℤ encoded_release plan.graph plan.windows i (m +ℤ pos 1) = is.dates.releases.releases.above i (m +ℤ pos 1) inside in
      omega (arith, ints, is.dates.deadlines.deadlines.below i m inside, above, (task_is plan.graph is.graph i inside).due.1, plus_mul m 1 (task_at plan.graph i).clock.period)

  pub release_earlier : (before after : Job) → Precedes plan.graph before after →
      encoded_release plan.graph plan.windows before.task before.number <ℤ encoded_release plan.graph plan.windows after.task after.number
  release_earlier before after precedes =
      omega (arith, ints, is.dates.releases.releases.along before after precedes, (task_is plan.graph is.graph before.task (both_inside plan.graph is.graph before after precedes).0).wcet.0)

  pub deadline_earlier : (before after : Job) → Precedes plan.graph before after →
      encoded_deadline plan.graph plan.windows before.task before.number <ℤ encoded_deadline plan.graph plan.windows after.task after.number
  deadline_earlier before after precedes =
      omega (arith, ints, is.dates.deadlines.deadlines.along before after precedes, (task_is plan.graph is.graph after.task (both_inside plan.graph is.graph before after precedes).1).wcet.0)
