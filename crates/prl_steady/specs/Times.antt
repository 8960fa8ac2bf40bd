-- How soon the jobs of a task end, over all jobs of the endless run.
use Rattle.std.specs.Prelude.{◌<◌, ℕ, Option}
use Rattle.prl_plan.specs.Horizons.{IsPastLimit}
use Rattle.prl_plan.specs.Plans.{PlanView}
use Rattle.prl_responses.specs.Responses.{IsTimesOf}
use Rattle.prl_responses.specs.declared.responses.Times.{Times}
use Rattle.prl_table.specs.Made.{run_until}
use Rattle.prl_steady.specs.Endless.{IsEndlessRun}
use Rattle.prl_steady.specs.declared.lasting.TimesFault.{TimesFault}
use Rattle.prl_steady.specs.declared.lasting.TimesFault.TheVariants as faults

-- the worst response and the least slack of task i over all its jobs, however late they are released
abbrev pub IsTimesForEver : PlanView → ℕ → Option Times → Type 0
IsTimesForEver plan i times = (run : ℕ → Option (ℕ × ℕ)) → IsEndlessRun plan run → IsTimesOf plan.graph run i times

-- the run up to the second hyperperiod after all tasks have started goes too far, or passes a limit; want of memory is free
abbrev pub IsTimesFault : PlanView → TimesFault → Type 0
IsTimesFault plan faults.TooFar = 2147483647 < run_until plan
IsTimesFault plan (faults.Limit limit) = IsPastLimit plan (run_until plan) limit
IsTimesFault plan faults.Memory = Unit {0}
