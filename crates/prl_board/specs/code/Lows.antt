-- What a task's seat keeps beside its view: a low half, and a worker.
use Rattle.std.specs.Prelude.{◌≡◌, ◌/◌, ℕ}
use Rattle.prl_base.specs.Values.{FitsValue}
use Rattle.prl_base.specs.declared.numbers.EdgeNo.{EdgeNo}
use Rattle.prl_plan.specs.declared.events.Action.TheVariants as actions
use Rattle.prl_plan.specs.declared.events.SlotNo.{SlotNo}
use Rattle.prl_plan.specs.Facts.{IsJob}
use Rattle.prl_plan.specs.Plans.{low, high}
use Rattle.prl_plan.specs.Runs.{action_at}
use Rattle.prl_values.specs.declared.workers.Worker.{Worker}
use Rattle.prl_values.specs.Workers.{IsWorker}
use Rattle.prl_seats.specs.declared.jobs.Stage.{Stage}
use Rattle.prl_seats.specs.declared.jobs.Stage.TheVariants as stages
use Rattle.prl_rule.specs.declared.views.Constants.{Constants}
use Rattle.prl_seats.specs.JobSeats.{JobSeatView}
use Rattle.prl_rule.specs.Known.{job_values_of, run_of, values_of}
use Rattle.prl_rule.specs.RunValues.{half_of}

-- before the high half of a cell is read, it is the low half of the same instance
abbrev pub IsLow : Constants → Stage → ℕ → Type 0
IsLow k stage kept = (port : ℕ) (e : EdgeNo) (m cell : ℕ) → stage ≡ stages.At (actions.Read port e m (record { 0 = high cell })) →
    kept ≡ half_of (values_of k) (low cell) m

-- the worker stands at the next action of the seat's job
abbrev pub Works : Constants → JobSeatView → Worker → Type 0
Works k s worker = IsWorker k.plan k.bodies k.horizon.until (job_values_of k) s.task.0 s.job s.place worker

-- job n of task i is to write this half, and the worker stands there
abbrev pub MayGive : Constants → ℕ → ℕ → EdgeNo → SlotNo → Worker → Type 0
MayGive k i n edge slot worker =
    (place : ℕ) × IsJob (run_of k) i n × (action_at (run_of k) i n place ≡ actions.Write edge n slot)
    × IsWorker k.plan k.bodies k.horizon.until (job_values_of k) i n place worker

-- it is the half of instance n that stands there, a value of 64 bits
abbrev pub Gives : Constants → ℕ → SlotNo → ℕ → Type 0
Gives k n slot half = (half ≡ half_of (values_of k) slot.0 n) × FitsValue ((values_of k).stored (slot.0 / 2) n)
