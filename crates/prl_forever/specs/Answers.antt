-- What is found of a plan.
use Rattle.std.specs.Prelude.{◌≡◌, ◌+◌, ◌*◌, ◌<◌, ◌≤◌, ℕ}
use Rattle.prl_plan.specs.declared.horizons.Horizon.{Horizon}
use Rattle.prl_plan.specs.Horizons.{constants_of, IsHorizon, IsPastLimit}
use Rattle.prl_plan.specs.Plans.{PlanView}
use Rattle.prl_overlaps.specs.Demand.{wcets_of}
use Rattle.prl_edf.specs.declared.analysis.Verdict.TheVariants as verdicts
use Rattle.prl_edf.specs.Verdicts.{IsVerdict}
use Rattle.prl_forever.specs.declared.deciding.ForEver.{ForEver}
use Rattle.prl_forever.specs.declared.deciding.ForEver.TheVariants as answers
use Rattle.prl_forever.specs.declared.deciding.ForEverFault.{ForEverFault}
use Rattle.prl_forever.specs.declared.deciding.ForEverFault.TheVariants as faults
use Rattle.prl_forever.specs.Forever.{load_of, IsLatestStart, ServesForEver}

-- one processor serves for ever; or the load is greater than a hyperperiod; or, where it is not, this interval is told of the horizon up to two
-- hyperperiods after the greatest start
abbrev pub IsAnswer : PlanView → ForEver → Type 0
IsAnswer plan answers.Served = ServesForEver plan
IsAnswer plan (answers.Heavy load) = (load ≡ load_of plan) × (plan.graph.hyper < load)
IsAnswer plan (answers.Overload from to demand) =
    (load_of plan ≤ plan.graph.hyper) × (start : ℕ) × IsLatestStart plan start
    × (horizon : Horizon) × IsHorizon plan horizon × (horizon.until ≡ start + 2 * plan.graph.hyper)
    × IsVerdict (constants_of plan horizon) (wcets_of plan) (verdicts.Overload from to demand)

-- the load is not greater, and that horizon passes a limit; want of memory is free
abbrev pub IsAnswerFault : PlanView → ForEverFault → Type 0
IsAnswerFault plan (faults.Limit limit) = (load_of plan ≤ plan.graph.hyper) × (start : ℕ) × IsLatestStart plan start × IsPastLimit plan (start + 2 * plan.graph.hyper) limit
IsAnswerFault plan faults.Memory = Unit {0}
