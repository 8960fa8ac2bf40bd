-- Events of a plan, and what is told of the halves of cells.
use Rattle.std.specs.Prelude.{◌≡◌, ◌/◌, ◌<◌, ℕ, zero, suc, length}
use Rattle.prl_base.specs.declared.numbers.CellNo.{CellNo}
use Rattle.prl_base.specs.declared.numbers.EdgeNo.{EdgeNo}
use Rattle.prl_base.specs.declared.numbers.TaskNo.{TaskNo}
use Rattle.prl_plan.specs.declared.events.SlotNo.{SlotNo}
use Rattle.prl_plan.specs.declared.events.Event.{Event}
use Rattle.prl_plan.specs.declared.events.Event.TheVariants as events
use Rattle.prl_plan.specs.declared.graphs.Kind.TheVariants as kinds
use Rattle.prl_plan.specs.Jobs.{task_at}
use Rattle.prl_plan.specs.Plans.{PlanView}
use Rattle.prl_track.specs.declared.seen.Seen.{Seen}
use Rattle.prl_track.specs.declared.seen.Seen.TheVariants as sights

-- the cell of which the slot is a half
abbrev pub cell_no : SlotNo → CellNo
cell_no slot = record { 0 = slot.0 / 2 }

-- what is told of a write of a half
abbrev pub sight_of_write : TaskNo → ℕ → EdgeNo → CellNo → ℕ → Seen
sight_of_write task n edge cell zero = sights.Half task n edge cell
sight_of_write task n edge cell (suc half) = sights.Wrote task n edge cell

-- an act is of a task of the plan
abbrev pub IsOfPlan : PlanView → Event → Type 0
IsOfPlan plan events.Tick = Unit {0}
IsOfPlan plan (events.Act task) = task.0 < length plan.graph.tasks

-- task i drives the actuator of main's output k
abbrev pub Drives : PlanView → ℕ → ℕ → Type 0
Drives plan i k = (i < length plan.graph.tasks) × ((task_at plan.graph i).kind ≡ kinds.Actuator k)
