-- A read that was overrun, as one thread that holds all seats finds it.
use Rattle.std.specs.Prelude.{◌≡◌, ◌+◌, ◌/◌, ◌<◌, ℕ, Some, slice_get}
use Rattle.prl_base.specs.declared.numbers.EdgeNo.{EdgeNo}
use Rattle.prl_plan.specs.declared.events.Action.TheVariants as actions
use Rattle.prl_plan.specs.declared.events.SlotNo.{SlotNo}
use Rattle.prl_plan.specs.Facts.{IsJob, WritesAt}
use Rattle.prl_plan.specs.Runs.{action_at}
use Rattle.prl_rule.specs.declared.views.Constants.{Constants}
use Rattle.prl_rule.specs.declared.views.Gate.TheVariants as gates
use Rattle.prl_rule.specs.Known.{run_of}
use Rattle.prl_seats.specs.JobSeats.{JobSeatView}
use Rattle.prl_board.specs.declared.seats.Half.{Half}
use Rattle.prl_board.specs.declared.seats.Place.TheVariants as places
use Rattle.prl_board.specs.Lones.{HoldsTag, LoneView}
use Rattle.prl_board.specs.TaskSeats.{place_of}
use Rattle.prl_exec.specs.declared.overruns.Missed.{Missed}

-- the open job of task i is to read at this port
abbrev pub IsReadingAt : LoneView → ℕ → ℕ → Type 0
IsReadingAt l i port = (s : JobSeatView) × (half : Half) × (slice_get l.seats i ≡ Some s) × (place_of s.stage ≡ places.Reading port half)

-- the open job of the task is to read a half, which holds a later instance than the wanted one; no gate holds the clock back
pub record IsOverrunIn (k : Constants) (l : LoneView) (missed : Missed) : Type 0 where
  pub free : k.gate ≡ gates.Gated → ⊥
  pub seat : JobSeatView
  pub has : slice_get l.seats missed.task.0 ≡ Some seat
  pub job : missed.job ≡ seat.job
  pub left : IsJob (run_of k) missed.task.0 seat.job
  pub edge : EdgeNo
  pub instance : ℕ
  pub slot : SlotNo
  pub reads : action_at (run_of k) missed.task.0 seat.job seat.place ≡ actions.Read missed.port edge instance slot
  pub cell : missed.cell.0 ≡ slot.0 / 2
  pub wanted : missed.wanted ≡ instance + 1
  pub later : missed.wanted < missed.found
  pub written : (m : ℕ) → missed.found ≡ m + 1 → (j : ℕ) × (n : ℕ) × (place : ℕ) × WritesAt (run_of k) j n place m slot.0
  pub holds : HoldsTag (run_of k) l.seats slot.0 missed.found
