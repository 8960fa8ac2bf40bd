-- The pieces of a run that meets all windows lie within the own windows of their jobs.
use Rattle.prl_base.proofs.Standard.{◌≡◌, ◌-◌, ◌<◌, ◌≤◌, ◌⊎◌, inl, inr, ℕ, pos, nat_abs, zero, suc, length, ap, arith, ints, Some, cases_lt}
use Rattle.prl_edf.specs.declared.runs.Timed.{Timed}
use Rattle.prl_edf.specs.Vocabulary.{IsFeasibleRun, run_of, units_before, unit_of}
use Rattle.prl_overlaps.specs.Demand.{wcets_of}
use Rattle.prl_plan.specs.declared.horizons.Horizon.{Horizon}
use Rattle.prl_plan.specs.Vocabulary.{HasPlanFacts, IsHorizon, IsPlan, PlanView, constants_of, sum_below, deadline_at, encoded_release}
use Rattle.prl_plan.proofs.RoundPeriods.{task_is}
use Rattle.prl_ages.specs.Ages.{released, due_by}
use Rattle.prl_responses.specs.code.PieceTimes.{AllFitOwn}
use Rattle.prl_responses.proofs.Pieces.{last_goes}

-- sums rise
sum_rises : (f : ℕ → ℕ) (a b : ℕ) → a ≤ b → sum_below f a ≤ sum_below f b
sum_rises f a zero past = (let e : a ≡ 0 = omega (arith, past) in omega (arith, ap (λ (x : ℕ). sum_below f x) e))
sum_rises f a (suc b) past = go (λ less. sum_rises f a b less) (cases_lt a (suc b))
  where
    go : (a ≤ b → sum_below f a ≤ sum_below f b) → (a < suc b) ⊎ (suc b ≤ a) → sum_below f a ≤ sum_below f (suc b)
    go deeper (inl less) = (let rest = deeper (let h : a ≤ b = omega (arith, less) in h) in omega (arith, rest))
    go deeper (inr more) = (let e : a ≡ suc b = omega (arith, past, more) in omega (arith, ap (λ (x : ℕ). sum_below f x) e))

module _ (plan : PlanView) (is : IsPlan plan) (i n : ℕ) (inside : i < length plan.graph.tasks) where
  -- a job is not released before its own release, and is due by its own deadline
  own_release : released plan.graph i n ≤ nat_abs (encoded_release plan.graph plan.windows i (pos n))
  own_release = omega (arith, ints)

  own_due : deadline_at plan i n ≤ due_by plan.graph i n
  own_due = (let below = is.dates.deadlines.deadlines.below i (pos n) inside in omega (arith, ints, below))

module _ (plan : PlanView) (is : IsPlan plan) (horizon : Horizon) (is_horizon : IsHorizon plan horizon) (facts : HasPlanFacts (constants_of plan horizon))
    (timed : Timed) (run : IsFeasibleRun (constants_of plan horizon) (wcets_of plan) timed) where
  -- a tick that goes to a job is before it is due
  before_due : (i n t : ℕ) → run_of timed.pieces t ≡ Some (i, n) → t < deadline_at plan i n
  before_due i n t goes = go (cases_lt t (deadline_at plan i n))
    where
      go : (t < deadline_at plan i n) ⊎ (deadline_at plan i n ≤ t) → t < deadline_at plan i n
      go (inl less) = less
      go (inr past) =
          let ready = run.plain.edf.timed.ready t i n goes in
          let met : wcets_of plan i n ≤ units_before (run_of timed.pieces) (deadline_at plan i n) i n = run.met i n ready.job in
          let up = sum_rises (λ k. unit_of (run_of timed.pieces k) i n) (deadline_at plan i n) t past in
          absurd (omega (arith, ready.left, met, up))

  pub all_fit : AllFitOwn plan.graph timed.pieces
  all_fit k piece at =
      let last = last_goes timed.pieces run.longest k piece at in
      let ready = run.plain.edf.timed.ready (piece.to - 1) piece.task.0 piece.job last.1 in
      let inside : piece.task.0 < length plan.graph.tasks = ready.job.task in
      let due = before_due piece.task.0 piece.job (piece.to - 1) last.1 in
      let from = own_release plan is piece.task.0 piece.job inside in
      let till = own_due plan is piece.task.0 piece.job inside in
      let end : deadline_at plan piece.task.0 piece.job ≤ horizon.end = facts.within piece.task.0 piece.job ready.job in
      let task = task_is plan.graph is.graph piece.task.0 inside in
      record {
        task = inside;
        begins = omega (arith, from, ready.released);
        ends = omega (arith, due, till);
        small = omega (arith, from, ready.released, due, end, is_horizon.events, is_horizon.few_events, task.due.1, task.period.1);
      }
