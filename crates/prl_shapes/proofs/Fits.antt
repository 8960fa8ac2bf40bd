-- The dates of the jobs of a range are small.
use Rattle.std.proofs.Math.Nat.{div-lt_iff_lt-mul}
use Rattle.prl_base.proofs.Standard.{pos, ◌+◌, ◌-◌, ◌/◌, ◌<◌, ◌^◌, ◌↔◌, ℕ, length, arith, ints}
use Rattle.prl_plan.specs.Vocabulary.{IsTask, IsHorizonJob, job_count, task_at, Placement, IsPlan, PlanView, deadline_at, release_at, IsSpread}
use Rattle.prl_plan.specs.declared.graphs.TaskGraph.{TaskGraph}
use Rattle.prl_cores.specs.Spreads.{LeavesRoom}
use Rattle.prl_shapes.specs.Shown.{placed_release}

-- by the laws on horizon jobs
pub dates_fit : (plan : PlanView) (i n until : ℕ) → i < length plan.graph.tasks → IsTask plan.graph.hyper (task_at plan.graph i) → until < 2 ^ 32 → n < job_count (task_at plan.graph i) until
    → ((graph : TaskGraph) (until i n : ℕ) → i < length graph.tasks → 0 < (task_at graph i).clock.period
    → IsHorizonJob graph until i n ↔ (n < job_count (task_at graph i) until))
    → ((plan : PlanView) → IsPlan plan → (until i n : ℕ) → until < 2 ^ 32 → IsHorizonJob plan.graph until i n
    → (release_at plan i n < 2 ^ 33) × (deadline_at plan i n < 2 ^ 33) × (n < 2 ^ 32))
    → IsPlan plan → (release_at plan i n < 2 ^ 33) × (deadline_at plan i n < 2 ^ 33)
dates_fit plan i n until inside fits small job counted fit plan_is =
    let f = fit plan plan_is until i n small ((counted plan.graph until i n inside fits.period.0).1 job) in
    (f.0, f.1)

-- a job is released on its processor before it is due
pub placed_fit : (plan : PlanView) (placement : Placement) (i n : ℕ) → i < length plan.graph.tasks → IsSpread plan placement → LeavesRoom plan placement
    → deadline_at plan i n < 2 ^ 33 → placed_release plan placement i n < 2 ^ 33
placed_fit plan placement i n inside spread leaves due =
    let above = spread.releases.releases.above i (pos n) inside in
    let room = leaves.room i (pos n) inside in
    omega (arith, ints, above, room, due)

-- and at a tick that a look-up may tell
pub placed_small : (plan : PlanView) (placement : Placement) (i n : ℕ) → i < length plan.graph.tasks → IsSpread plan placement → LeavesRoom plan placement
    → deadline_at plan i n < 2 ^ 33 → placed_release plan placement i n < 2 ^ 63
placed_small plan placement i n inside spread leaves due =
    let fit = placed_fit plan placement i n inside spread leaves due in
    omega (arith, fit)

-- of a task no more jobs are released before a tick than there are ticks
pub few_jobs : (ticks period : ℕ) → ticks < 2 ^ 32 → 0 < period → (ticks + (period - 1)) / period < 2 ^ 32
few_jobs ticks period small some = (div-lt_iff_lt-mul some).1 (omega (arith, small, some))
