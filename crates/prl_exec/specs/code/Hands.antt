-- The seats that a worker has, and gives back.
use Rattle.std.specs.Prelude.{◌≡◌, ◌+◌, ◌%◌, ◌<◌, ℕ, List, length, Option, Some, Vec, vec_items, slice_get}
use Rattle.std.specs.declared.alloc.Global.{Global}
use Rattle.prl_rule.specs.Known.{run_of}
use Rattle.prl_seats.specs.Boards.{BoardView}
use Rattle.prl_seats.specs.JobSeats.{IsSeatOf, JobSeatView}

-- Seats stand by the numbers of their tasks, all of one board.
pub record AreHeld (b : BoardView) (seats : List (Option JobSeatView)) : Type 0 where
  pub wide : length seats ≡ (run_of b.known).tasks
  pub each : (i : ℕ) (s : JobSeatView) → slice_get seats i ≡ Some (Some s) → IsSeatOf b s × (s.task ≡ record { 0 = i })

-- the seat of task i is there
abbrev pub Has : List (Option JobSeatView) → ℕ → Type 0
Has seats i = (s : JobSeatView) × (slice_get seats i ≡ Some (Some s))

-- no seat went away
abbrev pub KeepSeats : List (Option JobSeatView) → List (Option JobSeatView) → Type 0
KeepSeats before after = (i : ℕ) → Has before i → Has after i

-- all seats of a worker's tasks are there
abbrev pub HasOwn : ℕ → ℕ → ℕ → List (Option JobSeatView) → Type 0
HasOwn tasks workers worker seats = (i : ℕ) → i < tasks → i % workers ≡ worker → Has seats i

-- seats for the workers from worker 1 on, each of its tasks
abbrev pub AreDealt : (List (Option JobSeatView) → Type 0) → ℕ → ℕ → List (Vec (Option JobSeatView) Global) → Type 0
AreDealt holds tasks workers hands = (j : ℕ) (seats : Vec (Option JobSeatView) Global) → slice_get hands j ≡ Some seats → holds (vec_items seats) × HasOwn tasks workers (j + 1) (vec_items seats)
