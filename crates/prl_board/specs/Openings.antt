-- What stands at the opening of a board.
use Rattle.std.specs.Prelude.{◌≡◌, ◌<◌, ◌≤◌, ℕ, List, length, replicate, Some, slice_get}
use Rattle.prl_plan.specs.Runs.{RunConstants}
use Rattle.prl_rule.specs.declared.views.ClockPart.{ClockPart}
use Rattle.prl_rule.specs.declared.views.Constants.{Constants}
use Rattle.prl_rule.specs.declared.views.View.{View}
use Rattle.prl_seats.specs.Boards.{BoardView}
use Rattle.prl_board.specs.ClockSeats.{ClockSeatView, IsClockOf}
use Rattle.prl_seats.specs.JobSeats.{HasFirstPart, IsFirstSeat, IsSeatOf, JobSeatView}
use Rattle.prl_rule.specs.Known.{run_of}

-- the part of the clock at the opening
abbrev pub first_clock : RunConstants → ClockPart
first_clock c = record { now = 0; looks = replicate c.tasks 0; count = 0; stop = 0 }

-- in the view, which has the constants of the run, the clock is as it was at the opening
pub record IsFirstClock (k : Constants) (view : View) : Type 0 where
  pub known : view.constants ≡ Some k
  pub part : view.clock ≡ Some (first_clock (run_of k))

-- the seats are those of the tasks, in their order, at the opening
pub record AreFirstSeats (b : BoardView) (seats : List JobSeatView) : Type 0 where
  pub tasks : length seats ≡ (run_of b.known).tasks
  pub each : (i : ℕ) (seat : JobSeatView) → slice_get seats i ≡ Some seat → IsSeatOf b seat × IsFirstSeat b.known (record { 0 = i }) seat

-- the seat is the clock's at the opening
abbrev pub IsFirstClockOf : BoardView → ClockSeatView → Type 0
IsFirstClockOf b seat = IsClockOf b seat (first_clock (run_of b.known))

-- the view has the parts of the clock and of all tasks from task i on, as they were at the opening
pub record AreLeft (k : Constants) (i : ℕ) (view : View) : Type 0 where
  pub wide : length view.tasks ≡ (run_of k).tasks
  pub clock : IsFirstClock k view
  pub tasks : (j : ℕ) → i ≤ j → j < (run_of k).tasks → HasFirstPart k j view
