-- What polls of one thread that holds all seats say to one another.
use Rattle.std.specs.Prelude.{◌≡◌, ◌+◌, ◌<◌, ◌≤◌, ◌++◌, ℕ, List, [], ◌∷◌, Bool, true, false, length, slice_get, slice_index, Some}
use Rattle.prl_plan.specs.declared.events.Event.{Event}
use Rattle.prl_plan.specs.Rules.{KeepsGated}
use Rattle.prl_plan.specs.Runs.{RunConstants, ExecState}
use Rattle.prl_rule.specs.declared.views.ClockPart.{ClockPart}
use Rattle.prl_rule.specs.Rule.{reached}
use Rattle.prl_seats.specs.declared.jobs.Stage.TheVariants as stages
use Rattle.prl_seats.specs.JobSeats.{JobSeatView}
use Rattle.prl_board.specs.declared.seats.Place.{Place}
use Rattle.prl_board.specs.declared.seats.Place.TheVariants as places
use Rattle.prl_board.specs.Lones.{LoneView}
use Rattle.prl_exec.specs.Standing.{StandsIn, act_of}

-- the open job is to act
abbrev pub MayAct : Place → Type 0
MayAct places.Idle = ⊥
MayAct (places.Reading port half) = Unit {0}
MayAct (places.Writing e half) = Unit {0}
MayAct places.Ending = Unit {0}
MayAct places.Over = ⊥

-- the next job has not begun
abbrev pub IsIdle : Place → Type 0
IsIdle places.Idle = Unit {0}
IsIdle (places.Reading port half) = ⊥
IsIdle (places.Writing e half) = ⊥
IsIdle places.Ending = ⊥
IsIdle places.Over = ⊥

-- the next action of a task was done, or none may come
abbrev pub HasActed : RunConstants → LoneView → ClockPart → List Event → Bool → Type 0
HasActed c l r list true = (i : ℕ) × StandsIn c l r (list ++ act_of i ∷ [])
HasActed c l r list false = StandsIn c l r list × ((i : ℕ) → i < c.tasks → KeepsGated c (reached c list) (act_of i) → ⊥)

-- no horizon job is left
abbrev pub IsOver : LoneView → Type 0
IsOver l = (i : ℕ) (seat : JobSeatView) → slice_get l.seats i ≡ Some seat → seat.stage ≡ stages.Over

-- a horizon job is left
abbrev pub IsLeftOver : LoneView → Type 0
IsLeftOver l = (i : ℕ) × (seat : JobSeatView) × (slice_get l.seats i ≡ Some seat) × (seat.stage ≡ stages.Over → ⊥)

-- what is noted of each task of which a horizon job is left: its next job is not released before
abbrev pub AreNoted : RunConstants → List ℕ → ExecState → Type 0
AreNoted c until s = (i : ℕ) → i < c.tasks → slice_index s.ended i < c.jobs i → slice_index until i ≤ c.release i (slice_index s.ended i)

-- and none before this date
abbrev pub KeepsNoted : RunConstants → List ℕ → ℕ → ExecState → Type 0
KeepsNoted c until soon s = AreNoted c until s × ((i : ℕ) → i < c.tasks → soon ≤ slice_index until i)

-- task i did so many actions more, and no other task any
pub record RunsOn (c : RunConstants) (i : ℕ) (l : LoneView) (r : ClockPart) (list : List Event) (n : ℕ) : Type 0 where
  pub after : List Event
  pub count : length after ≡ length list + n
  pub same : n ≡ 0 → after ≡ list
  pub stands : StandsIn c l r after
  pub others : (j : ℕ) → (j ≡ i → ⊥) → slice_index (reached c after).ended j ≡ slice_index (reached c list).ended j

-- where it did none, its next action may not come
pub record HasRunOn (c : RunConstants) (i : ℕ) (l : LoneView) (r : ClockPart) (list : List Event) (n : ℕ) : Type 0 where
  pub runs : RunsOn c i l r list n
  pub none : n ≡ 0 → KeepsGated c (reached c list) (act_of i) → ⊥

-- it had its turn: what is noted of it may have changed
pub record HasTurned (c : RunConstants) (i : ℕ) (l : LoneView) (r : ClockPart) (list : List Event) (before after : List ℕ) (n : ℕ) : Type 0 where
  pub runs : HasRunOn c i l r list n
  pub noted : AreNoted c after (reached c runs.runs.after)
  pub rest : (j : ℕ) → (j ≡ i → ⊥) → slice_index after j ≡ slice_index before j

-- The tasks below i did so many actions more; where they did none, none of theirs may come. This is noted of all tasks, and of those the least date.
pub record Sweeps (c : RunConstants) (l : LoneView) (r : ClockPart) (list : List Event) (until : List ℕ) (soon n i : ℕ) : Type 0 where
  pub after : List Event
  pub count : length after ≡ length list + n
  pub same : n ≡ 0 → after ≡ list
  pub stands : StandsIn c l r after
  pub noted : AreNoted c until (reached c after)
  pub least : (j : ℕ) → j < i → soon ≤ slice_index until j
  pub none : n ≡ 0 → (j : ℕ) → j < i → KeepsGated c (reached c list) (act_of j) → ⊥

-- so many events more were done, and where none was no horizon job is left
pub record HasGoneOn (c : RunConstants) (l : LoneView) (list : List Event) (until : List ℕ) (soon n : ℕ) : Type 0 where
  pub after : List Event
  pub part : ClockPart
  pub count : length after ≡ length list + n
  pub stands : StandsIn c l part after
  pub noted : KeepsNoted c until soon (reached c after)
  pub over : n ≡ 0 → IsOver l
