-- What a run has come to.
use Rattle.std.specs.Prelude.{◌≡◌, ◌+◌, ◌/◌, ◌^◌, ◌<◌, ◌≤◌, ℕ, IsSome, Some, length, slice_get, slice_index}
use Rattle.prl_plan.specs.declared.walks.Operand.TheVariants as operands
use Rattle.prl_plan.specs.Facts.{IsJob}
use Rattle.prl_plan.specs.declared.events.Action.TheVariants as actions
use Rattle.prl_plan.specs.declared.events.SlotNo.{SlotNo}
use Rattle.prl_plan.specs.Runs.{action_at}
use Rattle.prl_seats.specs.JobSeats.{JobSeatView}
use Rattle.prl_plan.specs.Operands.{operand_of}
use Rattle.prl_plan.specs.Plans.{PlanView, cell_of, edge_at, low, place_on}
use Rattle.prl_plan.specs.Precedence.{ComesFrom}
use Rattle.prl_plan.specs.Rules.{IsComplete}
use Rattle.prl_plan.specs.Runs.{ExecState}
use Rattle.prl_rule.specs.declared.views.Constants.{Constants}
use Rattle.prl_rule.specs.declared.views.Gate.TheVariants as gates
use Rattle.prl_rule.specs.Agreement.{done_word, slot_word}
use Rattle.prl_rule.specs.Known.{run_of}
use Rattle.prl_board.specs.Closings.{ClosedView, IsClosed, IsLastState}
use Rattle.prl_exec.specs.declared.runs.RunFault.{RunFault}
use Rattle.prl_exec.specs.declared.runs.RunFault.TheVariants as faults
use Rattle.prl_exec.specs.declared.runs.Stopped.{Stopped}

-- every horizon job has ended in the state that the run has come to, by the constants of its board
abbrev pub HasEnded : ClosedView → Type 0
HasEnded closed = (k : Constants) (s : ExecState) → closed.constants ≡ Some k → IsLastState k closed.words closed.seats s → IsComplete (run_of k) s

-- on edge e job n of task i reads instance m at port q, and its place is this cell
pub record ReadsFrom (plan : PlanView) (i n q e m : ℕ) (cell : ℕ) : Type 0 where
  pub edge : e < length plan.graph.edges
  pub task : (edge_at plan.graph e).to.0 ≡ i
  pub port : (edge_at plan.graph e).port ≡ q
  pub operand : operand_of (edge_at plan.graph e) n ≡ operands.From m
  pub place : cell_of plan e m ≡ cell

-- a horizon job gives instance m to edge e, where it is used, and its place is this cell
pub record IsGivenTo (k : Constants) (e m : ℕ) (cell : ℕ) : Type 0 where
  pub job : (i : ℕ) × ComesFrom (edge_at k.plan.graph e).from i × IsJob (run_of k) i m
  pub used : IsSome (place_on k.plan e m)
  pub place : cell_of k.plan e m ≡ cell

-- A run on a free board has stopped where a job was to read: of its operand's cell it found a later instance than the operand, and the
-- board was closed there.
pub record HasStopped (k : Constants) (stopped : Stopped) : Type 0 where
  pub constants : stopped.closed.constants ≡ Some k
  pub is : IsClosed k stopped.closed.words stopped.closed.seats
  pub gate : k.gate ≡ gates.Free
  pub job : IsJob (run_of k) stopped.task.0 stopped.job
  pub edge : ℕ
  pub instance : ℕ
  pub reads : ReadsFrom k.plan stopped.task.0 stopped.job stopped.port edge instance stopped.cell.0
  pub wanted : stopped.wanted ≡ instance + 1
  pub later : stopped.wanted < stopped.found
  pub given : (m : ℕ) → stopped.found ≡ m + 1 → IsGivenTo k edge m stopped.cell.0
  -- the closed words show it
  pub tag : stopped.found ≤ slice_index stopped.closed.words (slot_word (run_of k) (low stopped.cell.0)) / 2 ^ 32
  pub done : slice_index stopped.closed.words (done_word stopped.task.0) ≡ stopped.job
  -- the job stands at this read, which it has not done
  pub at : (seat : JobSeatView) → slice_get stopped.closed.seats stopped.task.0 ≡ Some seat →
      (slot : SlotNo) × (stopped.cell.0 ≡ slot.0 / 2) ×
      (action_at (run_of k) stopped.task.0 stopped.job seat.place ≡ actions.Read stopped.port (record { 0 = edge }) instance slot)

-- why a run with these constants did not end; want of memory is free
abbrev pub IsRunFault : Constants → RunFault → Type 0
IsRunFault k (faults.Overrun stopped) = HasStopped k stopped
IsRunFault k faults.Memory = Unit {0}
