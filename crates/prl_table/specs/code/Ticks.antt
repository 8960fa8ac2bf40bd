-- What the ticks of a run go to, as a list.
use Rattle.std.specs.Prelude.{◌≡◌, ◌*◌, ◌/◌, ◌<◌, ◌≤◌, ℕ, List, Option, Some, length, slice_get, if◌then◌else◌, IfSome}
use Rattle.prl_base.specs.declared.numbers.TaskNo.{TaskNo}
use Rattle.prl_plan.specs.Plans.{PlanView}
use Rattle.prl_edf.specs.declared.pieces.Piece.{Piece}
use Rattle.prl_edf.specs.Pieces.{lies_in}
use Rattle.prl_overlaps.specs.declared.entries.Entry.{Entry}
use Rattle.prl_table.specs.MakeFaults.{job_in}
use Rattle.prl_tables.specs.Tables.{classes}

-- the list tells what each of its ticks goes to
abbrev pub HasTicks : (ℕ → Option (ℕ × ℕ)) → List (Option (TaskNo × ℕ)) → Type 0
HasTicks run ticks = (t : ℕ) (tick : Option (TaskNo × ℕ)) → slice_get ticks t ≡ Some tick → job_in tick ≡ run t

-- the run in which the ticks of a piece go to its job
abbrev pub with_piece : Piece → (ℕ → Option (ℕ × ℕ)) → ℕ → Option (ℕ × ℕ)
with_piece piece run t = if lies_in piece t then Some (piece.task.0, piece.job) else run t

-- the ticks go to jobs of the plan that are released by then
abbrev pub AreOfPlan : PlanView → List (Option (TaskNo × ℕ)) → Type 0
AreOfPlan plan ticks =
    (t : ℕ) (tick : Option (TaskNo × ℕ)) → slice_get ticks t ≡ Some tick →
    IfSome tick (λ job. (job.0.0 < length plan.graph.tasks) × (job.1 / classes plan.graph job.0.0 * plan.graph.hyper ≤ t))

-- each entry has so many units at most
abbrev pub HaveAtMost : ℕ → List Entry → Type 0
HaveAtMost most entries = (k : ℕ) (entry : Entry) → slice_get entries k ≡ Some entry → entry.units ≤ most
