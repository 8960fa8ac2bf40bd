-- What one thread that holds all seats keeps: each seat has lent what it knew to one seat of the table.
use Rattle.std.specs.Prelude.{◌≡◌, ℕ, List, length, Some, slice_get}
use mathlib.Core.Option.{some}
use lib.ListN.{get_elem?}
use Rattle.prl_plan.specs.Plans.{IsPlan}
use Rattle.prl_rule.specs.declared.views.ClockPart.{ClockPart}
use Rattle.prl_rule.specs.declared.views.Constants.{Constants}
use Rattle.prl_rule.specs.declared.views.TaskPart.{TaskPart}
use Rattle.prl_rule.specs.declared.views.View.{View}
use Rattle.prl_rule.specs.Agreement.{word_count}
use Rattle.prl_rule.specs.Told.{part_of}
use Rattle.prl_board.specs.ClockSeats.{ClockSeatView, IsClockData}
use Rattle.prl_board.specs.Closings.{IsClosed}
use Rattle.prl_seats.specs.JobSeats.{Follows, JobSeatView}
use Rattle.prl_rule.specs.Known.{run_of}
use Rattle.prl_rule.specs.Steps.{bare}

-- the seat of task i has lent its part: it stands as the view says
pub record IsLent (k : Constants) (view : View) (i : ℕ) (s : JobSeatView) : Type 0 where
  pub task : s.task ≡ record { 0 = i }
  pub given : s.view ≡ bare k
  pub stands : Follows k view i s.job s.place s.stage

-- the clock's seat has lent its part
pub record IsLentClock (k : Constants) (view : View) (s : ClockSeatView) : Type 0 where
  pub given : s.view ≡ bare k
  pub part : (r : ClockPart) × (view.clock ≡ Some r)
  pub same : IsClockData view s.now s.looks

pub record AreLent (k : Constants) (view : View) (seats : List JobSeatView) (clock : ClockSeatView) : Type 0 where
  pub tasks : length seats ≡ (run_of k).tasks
  pub each : (i : ℕ) (s : JobSeatView) → slice_get seats i ≡ Some s → IsLent k view i s
  pub ticks : IsLentClock k view clock

-- the part of task i stands where its seat does
abbrev pub IsSettled : View → ℕ → JobSeatView → Type 0
IsSettled view i s = ((part_of i view).stand.ended ≡ s.job) × ((part_of i view).stand.place ≡ s.place)

-- the half that a task has loaded last is the same in both views
abbrev pub KeepHalves : View → View → Type 0
KeepHalves before after = (i : ℕ) (p : TaskPart) → get_elem? before.tasks i ≡ some (Some p) → (q : TaskPart) × (get_elem? after.tasks i ≡ some (Some q)) × (q.kept ≡ p.kept)

-- two views differ by the part of task i at most
pub record IsElsewhere (i : ℕ) (before after : View) : Type 0 where
  pub parts : (j : ℕ) → (j ≡ i → ⊥) → get_elem? after.tasks j ≡ get_elem? before.tasks j
  pub clock : after.clock ≡ before.clock

-- a call of the seat of task i has given back the view that was lent to it
pub record IsReturned (k : Constants) (i : ℕ) (before after : View) (s : JobSeatView) : Type 0 where
  pub known : after.constants ≡ Some k
  pub elsewhere : IsElsewhere i before after
  pub lent : IsLent k after i s

-- and so has a call of the clock's seat
pub record IsClockReturned (k : Constants) (before after : View) (s : ClockSeatView) : Type 0 where
  pub known : after.constants ≡ Some k
  pub tasks : after.tasks ≡ before.tasks
  pub lent : IsLentClock k after s

-- what a closed board keeps: the words and the seats show a state that the run has come to, and the seats have lent what they knew
pub record IsLeft (k : Constants) (view : View) (words : List ℕ) (wide : ℕ) (seats : List JobSeatView) : Type 0 where
  pub given : view ≡ bare k
  pub closed : IsClosed k words seats
  pub sized : wide ≡ word_count (run_of k)
  pub lent : (i : ℕ) (s : JobSeatView) → slice_get seats i ≡ Some s → s.view ≡ bare k
  pub plan : IsPlan k.plan
