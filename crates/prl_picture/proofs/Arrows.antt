-- Arrows of edges in a range, and in a longer one.
use Rattle.prl_base.proofs.Standard.{◌≡◌, ◌+◌, ◌*◌, ◌<◌, ◌↔◌, ◌∙◌, ℕ, length, max, sym, subst, arith, pos, ◌+ℤ◌, ◌*ℤ◌, ◌<ℤ◌, ints}
use Rattle.prl_plan.specs.Vocabulary.{IsHorizonJob, job_count, task_at, operand_of, PlanView, edge_at, ComesFrom}
use Rattle.prl_plan.specs.declared.graphs.Producer.{Producer}
use Rattle.prl_plan.specs.declared.graphs.TaskGraph.{TaskGraph}
use Rattle.prl_plan.specs.declared.graphs.Producer.TheVariants as producers
use Rattle.prl_plan.specs.declared.walks.Operand.TheVariants as operands
use Rattle.prl_picture.specs.Ranges.{IsArrow, IsEndOfReading, IsReleasedIn, IsShortest}

-- an edge comes from one task
pub one_producer : (from : Producer) (i j : ℕ) → ComesFrom from i → ComesFrom from j → i ≡ j
one_producer (producers.Port task out) i j first second = sym first ∙ second
one_producer (producers.Constant value) i j first second = absurd first

-- an operand is of one job
from_one : (p m : ℕ) → operands.From p ≡ operands.From m → p ≡ m
from_one p m same = search same

module _ (plan : PlanView)
    (law : (graph : TaskGraph) (until i n : ℕ) → i < length graph.tasks → 0 < (task_at graph i).clock.period →
    IsHorizonJob graph until i n ↔ (n < job_count (task_at graph i) until)) where
  -- when a job is released by its clock
  abbrev pub own : ℕ → ℕ → ℕ
  own i n = (task_at plan.graph i).clock.start + n * (task_at plan.graph i).clock.period

  -- a job that is released in a range is released before its last tick
  early : (from limit i n : ℕ) → i < length plan.graph.tasks → 0 < (task_at plan.graph i).clock.period → IsReleasedIn plan from limit i n → own i n < limit
  early from limit i n inside some is =
      let job : IsHorizonJob plan.graph limit i n = (law plan.graph limit i n inside some).1 is.last in
      let e : (pos (task_at plan.graph i).clock.start +ℤ (pos n *ℤ pos (task_at plan.graph i).clock.period)) <ℤ pos limit = job.early in
      omega (arith, ints, e)

  -- and so it is in each range that ends later
  released : (from limit until i n : ℕ) → i < length plan.graph.tasks → 0 < (task_at plan.graph i).clock.period → IsReleasedIn plan from limit i n
      → own i n < until → IsReleasedIn plan from until i n
  released from limit until i n inside some is before = record {
    first = is.first;
    last =
        (let h : (task_at plan.graph i).clock.start + n * (task_at plan.graph i).clock.period < until = before in
        (law plan.graph until i n inside some).0 (record { task = inside; early = omega (arith, ints, h) }));
  }

  -- no range that ends before both releases has it
  shortest : (from e i n m before after : ℕ) → i < length plan.graph.tasks → 0 < (task_at plan.graph i).clock.period
      → (edge_at plan.graph e).to.0 < length plan.graph.tasks → 0 < (task_at plan.graph (edge_at plan.graph e).to.0).clock.period
      → operand_of (edge_at plan.graph e) n ≡ operands.From m → before ≡ own i m → after ≡ own (edge_at plan.graph e).to.0 n
      → IsShortest plan from e i n (max before after + 1)
  shortest from e i n m before after inside some to_inside to_some reads b a until p short arrow =
      let same : p ≡ m = from_one p m (sym arrow.reads ∙ reads) in
      let given : before < until = subst (λ (tick : ℕ). tick < until) (sym b)
      (subst (λ (k : ℕ). own i k < until) same (early from until i p inside some arrow.before)) in
      let read : after < until = subst (λ (tick : ℕ). tick < until) (sym a) (early from until (edge_at plan.graph e).to.0 n to_inside to_some arrow.after) in
      omega (arith, given, read, short)

  -- a range that ends after both releases has the arrow
  pub reading_ends : (from limit e i n m before after : ℕ) → i < length plan.graph.tasks → 0 < (task_at plan.graph i).clock.period
      → (edge_at plan.graph e).to.0 < length plan.graph.tasks → 0 < (task_at plan.graph (edge_at plan.graph e).to.0).clock.period
      → IsArrow plan from limit e i n m → before ≡ own i m → after ≡ own (edge_at plan.graph e).to.0 n → IsEndOfReading plan from limit e i n (max before after + 1)
  reading_ends from limit e i n m before after inside some to_inside to_some arrow b a =
      let giver : before < limit = subst (λ (tick : ℕ). tick < limit) (sym b) (early from limit i m inside some arrow.before) in
      let reader : after < limit = subst (λ (tick : ℕ). tick < limit) (sym a) (early from limit (edge_at plan.graph e).to.0 n to_inside to_some arrow.after) in (
        omega (arith, giver, reader),
        (λ until late.
            (let given : own i m < until = subst (λ (tick : ℕ). tick < until) b (omega (arith, late)) in
            let read : own (edge_at plan.graph e).to.0 n < until = subst (λ (tick : ℕ). tick < until) a (omega (arith, late)) in (
              m,
              record {
                producer = arrow.producer;
                reads = arrow.reads;
                before = released from limit until i m inside some arrow.before given;
                after = released from limit until (edge_at plan.graph e).to.0 n to_inside to_some arrow.after read;
              },
            ))),
        shortest from e i n m before after inside some to_inside to_some arrow.reads b a,
      )
