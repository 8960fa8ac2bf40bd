-- What a closed board shows, and how it agrees with what has happened.
use Rattle.std.specs.Prelude.{◌≡◌, ◌/◌, ◌^◌, ◌<◌, ◌≤◌, ℕ, Bool, List, length, Option, Some, slice_get, slice_index}
use Rattle.prl_base.specs.declared.values.Value.{Value}
use Rattle.prl_plan.specs.declared.events.Event.{Event}
use Rattle.prl_plan.specs.declared.graphs.Kind.TheVariants as kinds
use Rattle.prl_plan.specs.Jobs.{task_at}
use Rattle.prl_plan.specs.Plans.{low, high}
use Rattle.prl_plan.specs.Rules.{IsFree, IsGated}
use Rattle.prl_plan.specs.Runs.{ExecState, opening}
use Rattle.prl_board.specs.declared.seats.Half.{Half}
use Rattle.prl_board.specs.declared.seats.Half.TheVariants as halves
use Rattle.prl_rule.specs.declared.views.Constants.{Constants}
use Rattle.prl_rule.specs.declared.views.Gate.TheVariants as gates
use Rattle.prl_rule.specs.declared.views.KeptHalf.{KeptHalf}
use Rattle.prl_rule.specs.Agreement.{done_word, now_word, slot_word, word_count}
use Rattle.prl_seats.specs.JobSeats.{IsStage, JobSeatView}
use Rattle.prl_rule.specs.Known.{run_of, values_of}
use Rattle.prl_rule.specs.Rule.{reached}
use Rattle.prl_rule.specs.RunValues.{word_of}

-- the constants of its board's run, the words at the end, and by task where its job stands
pub record ClosedView : Type 0 where
  pub constants : Option Constants
  pub words : List ℕ
  pub seats : List JobSeatView

-- The run has come to this state: a list of events has led to it, a free one, and on a gated board a gated one. The words and the seats show it:
-- the word of a half tells which instance was written there last, and that half of its value.
pub record IsLastState (k : Constants) (words : List ℕ) (seats : List JobSeatView) (s : ExecState) : Type 0 where
  pub events : List Event
  pub free : IsFree (run_of k) (opening (run_of k)) events
  pub gated : k.gate ≡ gates.Gated → IsGated (run_of k) (opening (run_of k)) events
  pub state : s ≡ reached (run_of k) events
  pub now : slice_index words now_word ≡ s.now
  pub done : (i : ℕ) → i < (run_of k).tasks → slice_index words (done_word i) ≡ slice_index s.ended i
  pub half : (slot : ℕ) → slot < (run_of k).slots → slice_index words (slot_word (run_of k) slot) ≡ word_of (values_of k) slot (slice_index s.tags slot)
  pub each : (i : ℕ) (seat : JobSeatView) → slice_get seats i ≡ Some seat → (seat.job ≡ slice_index s.ended i) × (seat.place ≡ slice_index s.places i)

-- it is closed: the words and the seats show a state that the run has come to, and each seat is of its task and has ended horizon jobs alone
pub record IsClosed (k : Constants) (words : List ℕ) (seats : List JobSeatView) : Type 0 where
  pub wide : length words ≡ word_count (run_of k)
  pub tasks : length seats ≡ (run_of k).tasks
  pub each : (i : ℕ) (s : JobSeatView) → slice_get seats i ≡ Some s →
      (s.task ≡ record { 0 = i }) × (s.job ≤ (run_of k).jobs i) × ((is_open : Bool) × IsStage (run_of k) i s.job s.place is_open s.stage)
  pub last : (s : ExecState) × IsLastState k words seats s

-- the half that a task has loaded last holds at the end the tag that was loaded, or a later one
abbrev pub KeepsTag : Constants → KeptHalf → List ℕ → Type 0
KeepsTag k kept words = kept.word / 2 ^ 32 ≤ slice_index words (slot_word (run_of k) kept.slot) / 2 ^ 32

-- the slot of a half of a cell
abbrev pub slot_of : ℕ → Half → ℕ
slot_of cell halves.Low = low cell
slot_of cell halves.High = high cell

-- the values are those that the first `ended` jobs of task i have read, in order
pub record AreOutputs (k : Constants) (i ended : ℕ) (values : List Value) : Type 0 where
  pub count : length values ≡ ended
  pub each : (n : ℕ) → n < ended → slice_get values n ≡ slice_get ((values_of k).operands i n) 0

-- task i is the actuator of this number
pub record Drives (k : Constants) (i actuator : ℕ) : Type 0 where
  pub task : i < (run_of k).tasks
  pub kind : (task_at k.plan.graph i).kind ≡ kinds.Actuator actuator

-- task i is no actuator
abbrev pub IsNoActuator : Constants → ℕ → Type 0
IsNoActuator k i = (actuator : ℕ) → (task_at k.plan.graph i).kind ≡ kinds.Actuator actuator → ⊥
