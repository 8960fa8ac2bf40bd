-- Kinds of equal clocks, as chains of places.
use Rattle.std.specs.Prelude.{◌≡◌, ◌<◌, ◌≤◌, ◌⊎◌, ℕ, List, length, Option, Some, None, slice_get, slice_index, nat_eq}
use Rattle.std.specs.List.{Contains, IsDistinct}
use Rattle.std.specs.Ordering.{nat_cmp, ordering_then}
use Rattle.std.specs.declared.cmp.Ordering.{Ordering}
use Rattle.prl_base.specs.declared.operators.Clock.{Clock}

-- the clocks at the two places are equal
abbrev pub AreSame : List Clock → ℕ → ℕ → Type 0
AreSame clocks i j = slice_get clocks i ≡ slice_get clocks j

-- no clock at an earlier place equals the one at this place
abbrev pub IsFirst : List Clock → ℕ → Type 0
IsFirst clocks h = (h < length clocks) × ((k : ℕ) → k < h → AreSame clocks k h → ⊥)

-- among the first `i` clocks the next one that equals the one at place `j` is at place `k`, or there is none
pub record IsNext (clocks : List Clock) (i j k : ℕ) : Type 0 where
  pub later : j < k
  pub none : (m : ℕ) → j < m → m < k → m < i → AreSame clocks m j → ⊥
  pub same : k < i → AreSame clocks k j
  pub past : i ≤ k → k ≡ length clocks

-- the next place of each clock's kind
pub record AreFollowing (clocks : List Clock) (following : List ℕ) : Type 0 where
  pub count : length following ≡ length clocks
  pub next : (j : ℕ) → j < length clocks → IsNext clocks (length clocks) j (slice_index following j)

-- these are the first places of the kinds of the first `i` clocks
pub record AreFirsts (clocks : List Clock) (i : ℕ) (firsts : List ℕ) : Type 0 where
  pub apart : IsDistinct nat_eq firsts
  pub each : (k : ℕ) → k < length firsts → IsFirst clocks (slice_index firsts k) × (slice_index firsts k < i)
  pub all : (j : ℕ) → j < i → (k : ℕ) × (k < length firsts) × AreSame clocks (slice_index firsts k) j

-- the chains and the first places of the first `i` clocks
pub record AreChained (clocks : List Clock) (i : ℕ) (following firsts : List ℕ) : Type 0 where
  pub count : length following ≡ length clocks
  pub next : (j : ℕ) → j < i → IsNext clocks i j (slice_index following j)
  pub rest : (j : ℕ) → i ≤ j → j < length clocks → slice_index following j ≡ length clocks
  pub begins : AreFirsts clocks i firsts

-- the last place among the first `i` of a clock that equals this one
abbrev pub IsLast : List Clock → ℕ → Clock → Option ℕ → Type 0
IsLast clocks i c None = (m : ℕ) → m < i → slice_get clocks m ≡ Some c → ⊥
IsLast clocks i c (Some j) = (j < i) × (slice_get clocks j ≡ Some c) × ((m : ℕ) → j < m → m < i → slice_get clocks m ≡ Some c → ⊥)

-- to the places are added those of the clocks that equal the one at place `h`
pub record AddsKind (clocks : List Clock) (h : ℕ) (old new : List ℕ) : Type 0 where
  pub kept : (i : ℕ) → Contains old i → Contains new i
  pub each : (i : ℕ) → Contains new i → Contains old i ⊎ ((i < length clocks) × AreSame clocks i h)
  pub all : (i : ℕ) → i < length clocks → AreSame clocks i h → Contains new i
  pub apart : IsDistinct nat_eq old → ((i : ℕ) → Contains old i → AreSame clocks i h → ⊥) → IsDistinct nat_eq new

-- the same for each clock, where a table has the places by period and start
abbrev pub AreLasts : List Clock → ℕ → (ℕ × ℕ → Option ℕ) → Type 0
AreLasts clocks i f = (c : Clock) → IsLast clocks i c (f (c.period, c.start))

-- pairs in the order of a table
abbrev pub pair_order : ℕ × ℕ → ℕ × ℕ → Ordering
pair_order x y = ordering_then (nat_cmp x.0 y.0) (nat_cmp x.1 y.1)

-- to the places are added those before `place` of the clocks that equal the one at place `h`
pub record IsAdding (clocks : List Clock) (h : ℕ) (old : List ℕ) (place : ℕ) (new : List ℕ) : Type 0 where
  pub from : h ≤ place
  pub at : place < length clocks → AreSame clocks place h
  pub kept : (i : ℕ) → Contains old i → Contains new i
  pub each : (i : ℕ) → Contains new i → Contains old i ⊎ ((i < place) × (i < length clocks) × AreSame clocks i h)
  pub all : (i : ℕ) → i < place → i < length clocks → AreSame clocks i h → Contains new i
  pub apart : IsDistinct nat_eq old → ((i : ℕ) → Contains old i → AreSame clocks i h → ⊥) → IsDistinct nat_eq new
