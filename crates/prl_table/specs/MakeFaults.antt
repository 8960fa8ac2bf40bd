-- What is made of a plan, and why nothing is.
use Rattle.std.specs.Prelude.{◌≡◌, ◌+◌, ◌<◌, ◌≤◌, ℕ, List, Option, Some, None}
use Rattle.std.specs.List.Sorted.{IsPermutation}
use Rattle.prl_base.specs.declared.numbers.TaskNo.{TaskNo}
use Rattle.prl_plan.specs.declared.horizons.Horizon.{Horizon}
use Rattle.prl_plan.specs.Horizons.{constants_of, IsHorizon, IsPastLimit}
use Rattle.prl_plan.specs.Plans.{PlanView}
use Rattle.prl_edf.specs.declared.analysis.Verdict.TheVariants as verdicts
use Rattle.prl_edf.specs.declared.runs.Timed.{Timed}
use Rattle.prl_edf.specs.Outcomes.{IsFeasibleRun}
use Rattle.prl_edf.specs.Pieces.{run_of}
use Rattle.prl_overlaps.specs.Demand.{wcets_of}
use Rattle.prl_edf.specs.Verdicts.{IsVerdict}
use Rattle.prl_table.specs.declared.making.MakeFault.{MakeFault}
use Rattle.prl_table.specs.declared.making.MakeFault.TheVariants as faults
use Rattle.prl_overlaps.specs.declared.entries.Entry.{Entry}
use Rattle.prl_table.specs.Made.{cut_from, cut_to, later, run_until, IsSteadyRun}
use Rattle.prl_tables.specs.TableTexts.{AreOrdered}

-- what a tick goes to, as it is told
abbrev pub job_in : Option (TaskNo × ℕ) → Option (ℕ × ℕ)
job_in None = None
job_in (Some job) = Some (job.0.0, job.1)

-- the first tick at which it does not
pub record IsUnsteadyAt (plan : PlanView) (run : ℕ → Option (ℕ × ℕ)) (at : ℕ) : Type 0 where
  pub from : cut_from plan ≤ at
  pub to : at < cut_from plan + plan.graph.hyper
  pub differ : later plan (run at) ≡ run (at + plan.graph.hyper) → ⊥
  pub before : (t : ℕ) → cut_from plan ≤ t → t < at → later plan (run t) ≡ run (t + plan.graph.hyper)

-- with what both ticks go to
pub record IsFirstUnsteady (plan : PlanView) (run : ℕ → Option (ℕ × ℕ)) (at : ℕ) (first second : Option (TaskNo × ℕ)) : Type 0 where
  pub tick : IsUnsteadyAt plan run at
  pub first_is : job_in first ≡ run at
  pub second_is : job_in second ≡ run (at + plan.graph.hyper)

-- the plain run by earliest deadline first up to two hyperperiods after that tick, in which all windows are met
pub record IsLongRun (plan : PlanView) (horizon : Horizon) (timed : Timed) : Type 0 where
  pub is_horizon : IsHorizon plan horizon
  pub until : horizon.until ≡ run_until plan
  pub near : run_until plan ≤ 2147483647
  pub run : IsFeasibleRun (constants_of plan horizon) (wcets_of plan) timed

-- the pieces of that run in the hyperperiod that is cut out, in order
pub record IsMade (plan : PlanView) (entries : List Entry) : Type 0 where
  pub within : Horizon
  pub timed : Timed
  pub run : IsLongRun plan within timed
  pub steady : IsSteadyRun plan (run_of timed.pieces)
  pub cut : IsPermutation (cut_to plan (run_of timed.pieces) (cut_from plan) plan.graph.hyper) entries
  pub ordered : AreOrdered None entries

-- why no table is made, each where what comes before it holds; want of memory is free
abbrev pub IsMakeFault : PlanView → MakeFault → Type 0
IsMakeFault plan (faults.TooFar tick) = (tick ≡ run_until plan) × (2147483647 < tick)
IsMakeFault plan (faults.Limit limit) = (run_until plan ≤ 2147483647) × IsPastLimit plan (run_until plan) limit
IsMakeFault plan (faults.Overload from to demand) =
    (run_until plan ≤ 2147483647) × (horizon : Horizon) × IsHorizon plan horizon × (horizon.until ≡ run_until plan)
    × IsVerdict (constants_of plan horizon) (wcets_of plan) (verdicts.Overload from to demand)
IsMakeFault plan (faults.Unsteady at first second) =
    (horizon : Horizon) × (timed : Timed) × IsLongRun plan horizon timed × IsFirstUnsteady plan (run_of timed.pieces) at first second
IsMakeFault plan faults.Memory = Unit {0}
