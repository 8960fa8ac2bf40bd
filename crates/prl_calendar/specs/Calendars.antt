-- Calendars: the dates of a list of clocks, in order, and the places of the clocks that have each.
use Rattle.std.specs.Prelude.{◌≡◌, ◌+◌, ◌<◌, ◌≤◌, ℕ, List, Option, Some, None, slice_get}
use Rattle.std.specs.List.{Contains}
use Rattle.std.specs.List.Sorted.{IsStrictlyIncreasing}
use Rattle.prl_base.specs.Clocks.{IsClock, IsDate}
use Rattle.prl_base.specs.declared.operators.Clock.{Clock}

-- the clocks, and from which date on and before which one their dates are told
pub record CalendarView : Type 0 where
  pub clocks : List Clock
  pub from : ℕ
  pub until : ℕ

abbrev pub AreAllClocks : List Clock → Type 0
AreAllClocks clocks = (i : ℕ) (c : Clock) → slice_get clocks i ≡ Some c → IsClock c

-- the clock at this place has the date
abbrev pub HasDate : List Clock → ℕ → ℕ → Type 0
HasDate clocks i t = (c : Clock) × (slice_get clocks i ≡ Some c) × IsDate c t

-- the places of the clocks that have the date, rising
pub record AreDue (clocks : List Clock) (t : ℕ) (due : List ℕ) : Type 0 where
  pub rising : IsStrictlyIncreasing due
  pub each : (i : ℕ) → Contains due i → HasDate clocks i t
  pub all : (i : ℕ) → HasDate clocks i t → Contains due i

-- the first date that is to be told
pub record IsNextDate (view : CalendarView) (t : ℕ) : Type 0 where
  pub from : view.from ≤ t
  pub before : t < view.until
  pub has : (i : ℕ) × HasDate view.clocks i t
  pub first : (i s : ℕ) → HasDate view.clocks i s → view.from ≤ s → t ≤ s

-- no date is left to be told
abbrev pub HasNoDate : CalendarView → Type 0
HasNoDate view = (i s : ℕ) → HasDate view.clocks i s → view.from ≤ s → view.until ≤ s

-- The next date with its places, after which the dates behind it are to be told; or none, and nothing changes.
abbrev pub Tells : CalendarView → Option ℕ → List ℕ → CalendarView → Type 0
Tells old None due new = HasNoDate old × (new ≡ old)
Tells old (Some t) due new = IsNextDate old t × AreDue old.clocks t due × (new ≡ record old { from = t + 1 })
