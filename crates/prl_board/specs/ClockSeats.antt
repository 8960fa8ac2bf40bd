-- What is seen of the clock's seat, and what its ticks answer.
use Rattle.std.specs.Prelude.{◌≡◌, ◌+◌, ◌<◌, ◌≤◌, ℕ, List, length, slice_index, Option, Some}
use Rattle.atomic_table.specs.Seated.{TableId}
use Rattle.prl_base.specs.declared.numbers.TaskNo.{TaskNo}
use Rattle.prl_plan.specs.Facts.{IsJob}
use Rattle.prl_rule.specs.declared.views.Constants.{Constants}
use Rattle.prl_rule.specs.declared.views.Gate.TheVariants as gates
use Rattle.prl_rule.specs.declared.views.ClockPart.{ClockPart}
use Rattle.prl_rule.specs.declared.views.View.{View}
use Rattle.prl_board.specs.declared.clocks.Ticked.{Ticked}
use Rattle.prl_board.specs.declared.clocks.Ticked.TheVariants as ticks
use Rattle.prl_seats.specs.Boards.{BoardView, NamesTask}
use Rattle.prl_rule.specs.Told.{ClockStopTold, TickTold}
use Rattle.prl_rule.specs.Known.{run_of}

-- its table, its number there, and its view; and beside it the clock's `now` and its looks
pub record ClockSeatView : Type 0 where
  pub table : TableId
  pub id : ℕ
  pub view : View
  pub now : ℕ
  pub looks : List ℕ

-- The seat belongs to the board: both are of one table, its view has the constants of the board's run, and this part of the clock.
pub record IsClockOf (b : BoardView) (s : ClockSeatView) (r : ClockPart) : Type 0 where
  pub table : s.table ≡ b.table
  pub known : s.view.constants ≡ Some b.known
  pub part : s.view.clock ≡ Some r

-- the seat says the same of the clock beside its view
pub record IsSaidBy (s : ClockSeatView) (r : ClockPart) : Type 0 where
  pub now : r.now ≡ s.now
  pub looks : r.looks ≡ s.looks

-- no job of the horizon that has not been seen to end is due earlier
abbrev pub AreDueBy : Constants → List ℕ → ℕ → Type 0
AreDueBy k looks due = (i n : ℕ) → IsJob (run_of k) i n → slice_index looks i ≤ n → due ≤ (run_of k).deadline i n

-- job n of task i is one of the horizon that is due by the next tick, and has not been seen to end
pub record IsUnseen (k : Constants) (r : ClockPart) (i n : ℕ) : Type 0 where
  pub job : IsJob (run_of k) i n
  pub due : (run_of k).deadline i n ≤ r.now + 1
  pub unseen : slice_index r.looks i ≤ n

-- it is the first such job of the lowest task that has one
pub record IsBehind (k : Constants) (r : ClockPart) (i n : ℕ) : Type 0 where
  pub job : IsUnseen k r i n
  pub first : (m : ℕ) → IsUnseen k r i m → n ≤ m
  pub lowest : (j m : ℕ) → IsUnseen k r j m → i ≤ j

-- no job is such
abbrev pub IsAllSeen : Constants → ClockPart → Type 0
IsAllSeen k r = (i n : ℕ) → IsUnseen k r i n → ⊥

-- what a tick answers: on a gated board it waits for what is due
abbrev pub AnswersTick : Constants → ClockPart → ClockSeatView → ClockSeatView → Ticked → Type 0
AnswersTick k r before after (ticks.Now now) =
    (now ≡ r.now + 1) × (r.now < (run_of k).end) × (k.gate ≡ gates.Gated → IsAllSeen k r) × TickTold r before.view after.view
AnswersTick k r before after (ticks.Behind task job) =
    (k.gate ≡ gates.Gated) × (r.now < (run_of k).end) × IsBehind k r task.0 job × (after ≡ before)
AnswersTick k r before after ticks.End = (r.now ≡ (run_of k).end) × (after ≡ before)

-- after a load of the stop word by the clock's seat
pub record AnswersStop (k : Constants) (r : ClockPart) (before after : ClockSeatView) (answer : Option TaskNo) : Type 0 where
  pub word : ℕ
  pub told : ClockStopTold k r before.view word after.view
  pub names : NamesTask word answer

-- what the seat has beside its view is what the view says of the clock
pub record IsClockData (view : View) (now : ℕ) (looks : List ℕ) : Type 0 where
  pub same : (r : ClockPart) → view.clock ≡ Some r → (r.now ≡ now) × (r.looks ≡ looks)
  pub within : (k : Constants) → view.constants ≡ Some k → now ≤ (run_of k).end
  pub wide : (k : Constants) → view.constants ≡ Some k → length looks ≡ (run_of k).tasks
