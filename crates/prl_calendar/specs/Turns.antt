-- The next date of each kind of clocks, with the place of its first clock.
use Rattle.std.specs.Prelude.{◌≡◌, ◌+◌, ◌-◌, ◌^◌, ◌<◌, ◌≤◌, ◌⊎◌, ◌==◌, ℕ, List, ◌∷◌, length, min, slice_index_or, Bool, nat_eq}
use Rattle.std.specs.List.{All, Contains, IsDistinct}
use Rattle.std.specs.List.Sorted.{IsPermutation}
use Rattle.std.specs.Ordering.{nat_cmp, ordering_then}
use Rattle.std.specs.declared.cmp.Ordering.{Ordering}
use Rattle.std.specs.declared.cmp.Reverse.{Reverse}
use Rattle.prl_base.specs.declared.operators.Clock.{Clock}
use Rattle.prl_calendar.specs.Calendars.{AreAllClocks, HasDate}
use Rattle.prl_calendar.specs.Kinds.{AreFollowing, AreSame, IsFirst}

abbrev pub Turn : Type 0
Turn = Reverse (ℕ × ℕ)

abbrev pub date_of : Turn → ℕ
date_of e = e.0.0

abbrev pub place_of : Turn → ℕ
place_of e = e.0.1

-- the earlier date is the greater turn
abbrev pub turn_order : Turn → Turn → Ordering
turn_order x y = ordering_then (nat_cmp y.0.0 x.0.0) (nat_cmp y.0.1 x.0.1)

-- the next date of the clock after its date `t`, or the greatest number of 64 bits
abbrev pub date_after : List Clock → ℕ → ℕ → ℕ
date_after clocks h t = min (t + (slice_index_or clocks h (record { period = 1; start = 0 })).period) (2 ^ 64 - 1)

-- no date of the turn's kind from `from` on is before its own, which is one if it is before `until`
pub record IsTurn (clocks : List Clock) (until from : ℕ) (e : Turn) : Type 0 where
  pub first : IsFirst clocks (place_of e)
  pub late : from ≤ date_of e
  pub due : date_of e < until → HasDate clocks (place_of e) (date_of e)
  pub next : (s : ℕ) → HasDate clocks (place_of e) s → from ≤ s → s < until → date_of e ≤ s

-- the first turn of the kind whose first clock is at place `h`
abbrev pub first_turn : List Clock → ℕ → Turn
first_turn clocks h = record { 0 = ((slice_index_or clocks h (record { period = 0; start = 0 })).start, h) }

abbrev pub same_place : Turn → Turn → Bool
same_place e f = place_of e == place_of f

-- there is a turn of the kind of the clock at place `i`
abbrev pub HasTurn : List Clock → List Turn → ℕ → Type 0
HasTurn clocks turns i = (e : Turn) × Contains turns e × AreSame clocks (place_of e) i

-- one turn for each kind
pub record AreTurns (clocks : List Clock) (until from : ℕ) (turns : List Turn) : Type 0 where
  pub each : All (IsTurn clocks until from) turns
  pub apart : IsDistinct same_place turns
  pub all : (i : ℕ) → i < length clocks → HasTurn clocks turns i

-- the turn of the kind at place `h` has moved from its date `t` to the next one
pub record HasTurned (clocks : List Clock) (t h : ℕ) (old new : List Turn) : Type 0 where
  pub rest : List Turn
  pub popped : IsPermutation old (record { 0 = (t, h) } ∷ rest)
  pub pushed : IsPermutation (record { 0 = (date_after clocks h t, h) } ∷ rest) new

-- Some turns have moved on from the date `t`, and the places of their kinds are due; the others of this date have not.
pub record AreTurning (clocks : List Clock) (until t : ℕ) (turns : List Turn) (due : List ℕ) : Type 0 where
  pub first : All (λ e. IsFirst clocks (place_of e)) turns
  pub late : All (λ e. t ≤ date_of e) turns
  pub dated : All (λ e. date_of e < until → HasDate clocks (place_of e) (date_of e)) turns
  pub next : All (λ e. (s : ℕ) → HasDate clocks (place_of e) s → t < s → s < until → date_of e ≤ s) turns
  pub apart : IsDistinct same_place turns
  pub all : (i : ℕ) → i < length clocks → HasTurn clocks turns i
  pub found : (i : ℕ) → Contains due i → HasDate clocks i t
  pub left : (i : ℕ) → HasDate clocks i t → Contains due i ⊎ ((e : Turn) × Contains turns e × AreSame clocks (place_of e) i × (date_of e ≡ t))
  pub not_yet : (e : Turn) (i : ℕ) → Contains turns e → date_of e ≡ t → Contains due i → AreSame clocks i (place_of e) → ⊥
  pub distinct : IsDistinct nat_eq due

-- the greatest number of 64 bits, which no date before another reaches
abbrev pub last : ℕ
last = 2 ^ 64 - 1

-- what a calendar keeps; where no date is left to be told, its turns may be anything
pub record IsCalendar (clocks : List Clock) (from until : ℕ) (following : List ℕ) (turns : List Turn) : Type 0 where
  pub few : length clocks < 2 ^ 32
  pub periods : AreAllClocks clocks
  pub chains : AreFollowing clocks following
  pub told : from < until → AreTurns clocks last from turns
