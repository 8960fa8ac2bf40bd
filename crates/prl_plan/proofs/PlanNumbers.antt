-- The numbers of a graph and of its plans fit.
use Rattle.prl_base.proofs.Standard.{◌≡◌, ◌+◌, ◌*◌, ◌<◌, ◌≤◌, ◌^◌, ℕ, List, [], ◌∷◌, length, subst, arith, ℤ, pos, mul-le-mul_left, ints, slice_get-get_or}
use Rattle.prl_base.specs.declared.operators.Clock.{Clock}
use Rattle.prl_base.specs.declared.operators.Op.{Op}
use Rattle.prl_plan.specs.Vocabulary.{Edge, TaskGraph, Window, task_at, IsHorizonJob, IsWellFormed, IsEdge, IsTask, TakeClock, walk, operand_of, AreEncodedDates, window_at, PlanView, HaveRoom, IsPlan}
use Rattle.prl_plan.specs.Vocabulary.{edge_at, no_edge, release_at, deadline_at}
use Rattle.prl_plan.specs.declared.walks.Operand.TheVariants as operands
use Rattle.prl_plan.proofs.WalkLaws.{walked_back, operand_walks}
use Rattle.prl_plan.proofs.WalkNumbers.{divisor_within}
use Rattle.prl_plan.proofs.RoundPeriods.{task_is}

times_more : (n p : ℕ) → 1 ≤ p → n ≤ n * p
times_more n p some = omega (arith, mul-le-mul_left n some)

-- the producer's clock has a period of at least 1
first_period : (hyper : ℕ) (ops : List Op) (producer consumer : Clock) → TakeClock hyper ops producer consumer → 1 ≤ producer.period
first_period hyper [] producer consumer takes = subst (λ (c : Clock). 1 ≤ c.period) takes.2 takes.0
first_period hyper (op ∷ ops) producer consumer takes = first_period hyper ops producer takes.2.0 takes.2.2

module _ (graph : TaskGraph) (good : IsWellFormed graph) where
  pub edge_fact : (e : ℕ) → e < length graph.edges → IsEdge graph (edge_at graph e)
  edge_fact e inside = good.edges e (edge_at graph e) (slice_get-get_or graph.edges e no_edge inside)

  -- what job n reads has no higher number than the date of the job
  pub walked_within : (e n m : ℕ) → e < length graph.edges → walk (edge_at graph e).ops n ≡ operands.From m →
      m ≤ (task_at graph (edge_at graph e).to.0).clock.start + n * (task_at graph (edge_at graph e).to.0).clock.period
  walked_within e n m inside reads =
      let edge : Edge = edge_at graph e in
      let is = edge_fact e inside in
      let some : 1 ≤ is.clocks.0.period = first_period graph.hyper edge.ops is.clocks.0 (task_at graph edge.to.0).clock is.clocks.3 in
      omega (arith, walked_back edge.ty graph.hyper edge.ops is.operators is.clocks.0 (task_at graph edge.to.0).clock is.clocks.3 n m reads, times_more m is.clocks.0.period some)

-- a job ends in its window: after its encoded release and its WCET, and by its deadline
pub window_within : (graph : TaskGraph) (windows : List (List Window)) → AreEncodedDates graph windows → HaveRoom graph windows →
    (i : ℕ) (m : ℤ) → i < length graph.tasks →
    ((window_at windows i m).lead + (task_at graph i).wcet ≤ (window_at windows i m).tail) × ((window_at windows i m).tail ≤ (task_at graph i).due)
window_within graph windows dates room i m inside =
    (omega (arith, ints, room.room i m inside), omega (arith, ints, dates.deadlines.deadlines.below i m inside))

-- what a job reads has no higher number than its encoded release
pub operand_within : (plan : PlanView) → IsPlan plan → (e n m : ℕ) → e < length plan.graph.edges → operand_of (edge_at plan.graph e) n ≡ operands.From m →
    m ≤ release_at plan (edge_at plan.graph e).to.0 n
operand_within plan is e n m inside reads =
    omega (arith, walked_within plan.graph is.graph e n m inside (operand_walks (edge_at plan.graph e) n m reads).2)

-- the dates of a horizon job
pub horizon_dates : (plan : PlanView) → IsPlan plan → (until i n : ℕ) → until < 2 ^ 32 → IsHorizonJob plan.graph until i n →
    (release_at plan i n < 2 ^ 33) × (deadline_at plan i n < 2 ^ 33) × (n < 2 ^ 32)
horizon_dates plan is until i n small job =
    let w = window_within plan.graph plan.windows is.dates is.room i (pos n) job.task in
    let t : IsTask plan.graph.hyper (task_at plan.graph i) = task_is plan.graph is.graph i job.task in
    let period : (task_at plan.graph i).clock.period ≤ plan.graph.hyper = divisor_within (task_at plan.graph i).clock.period plan.graph.hyper is.graph.hyper t.divides in
    let few = is.graph.few_ticks in
    let due = t.due.1 in
    let early = job.early in
    let up = times_more n (task_at plan.graph i).clock.period t.period.0 in
    (omega (arith, ints, w, period, few, due, early, small), omega (arith, ints, w, period, few, due, early, small), omega (arith, ints, early, small, up))
