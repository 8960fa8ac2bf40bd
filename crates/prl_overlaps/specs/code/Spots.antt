-- Where entries stand in the hyperperiod, in order of place.
use Rattle.std.specs.Prelude.{◌≡◌, ◌≢◌, ◌+◌, ◌%◌, ◌<◌, ◌≤◌, ◌⊎◌, ℕ, Bool, true, false, List, Option, Some, None, min, slice_get}
use Rattle.std.specs.List.Sorted.{IsNonDecreasingBy}
use Rattle.prl_overlaps.specs.declared.clashes.Spot.{Spot}
use Rattle.prl_overlaps.specs.declared.entries.Entry.{Entry}

-- the spot of entry k: its beginning taken within the first hyperperiod
abbrev pub spot_of : ℕ → ℕ → Entry → Spot
spot_of hyper k entry = record { from = entry.at % hyper; to = entry.at % hyper + entry.units; entry = k }

-- two spots share a tick, or one goes over the end of the hyperperiod into the other
abbrev pub Meets : ℕ → Spot → Spot → Type 0
Meets hyper one other = ((one.from < other.to) × (other.from < one.to)) ⊎ ((one.from + hyper < other.to) ⊎ (other.from + hyper < one.to))

-- The spots are those of the entries, each at one place.
pub record AreSpots (hyper : ℕ) (entries : List Entry) (spots : List Spot) : Type 0 where
  pub each : (p : ℕ) (spot : Spot) → slice_get spots p ≡ Some spot →
      (entry : Entry) × (slice_get entries spot.entry ≡ Some entry) × (spot ≡ spot_of hyper spot.entry entry)
  pub all : (k : ℕ) (entry : Entry) → slice_get entries k ≡ Some entry → (p : ℕ) × (slice_get spots p ≡ Some (spot_of hyper k entry))
  pub once : (p q : ℕ) (one other : Spot) → slice_get spots p ≡ Some one → slice_get spots q ≡ Some other → one.entry ≡ other.entry → p ≡ q

-- in the order of their beginnings
abbrev pub AreSorted : List Spot → Type 0
AreSorted spots = IsNonDecreasingBy (λ (spot : Spot). spot.from) spots

-- the highest end of the first `count` spots
pub record IsHighest (spots : List Spot) (count high : ℕ) : Type 0 where
  pub above : (p : ℕ) (spot : Spot) → p < count → slice_get spots p ≡ Some spot → spot.to ≤ high
  pub attained : (high ≡ 0) ⊎ ((p : ℕ) × (spot : Spot) × (p < count) × (slice_get spots p ≡ Some spot) × (high ≡ spot.to))

-- the spot at this place meets one at another place
abbrev pub MeetsSome : ℕ → List Spot → ℕ → Type 0
MeetsSome hyper spots p =
    (one : Spot) × (slice_get spots p ≡ Some one) × ((q : ℕ) × (other : Spot) × (q ≢ p) × (slice_get spots q ≡ Some other) × Meets hyper one other)

-- k is the entry of one of the first `count` spots, which meets another one, and of such entries the first
pub record IsFirstMeeting (hyper : ℕ) (spots : List Spot) (count k : ℕ) : Type 0 where
  pub p : ℕ
  pub one : Spot
  pub below : p < count
  pub stands : slice_get spots p ≡ Some one
  pub entry : k ≡ one.entry
  pub meets : MeetsSome hyper spots p
  pub least : (q : ℕ) (other : Spot) → q < count → slice_get spots q ≡ Some other → MeetsSome hyper spots q → k ≤ other.entry

-- that entry, or none of these spots meets another one
abbrev pub IsLeastMeeting : ℕ → List Spot → ℕ → Option ℕ → Type 0
IsLeastMeeting hyper spots count None = (p : ℕ) → p < count → MeetsSome hyper spots p → ⊥
IsLeastMeeting hyper spots count (Some k) = IsFirstMeeting hyper spots count k

-- the spots of entries k and l meet
pub record Meet (hyper : ℕ) (entries : List Entry) (k l : ℕ) : Type 0 where
  pub one : Entry
  pub other : Entry
  pub first : slice_get entries k ≡ Some one
  pub second : slice_get entries l ≡ Some other
  pub differ : l ≢ k
  pub meets : Meets hyper (spot_of hyper k one) (spot_of hyper l other)

-- l is the first entry that entry k meets
pub record IsFirstMet (hyper : ℕ) (entries : List Entry) (k l : ℕ) : Type 0 where
  pub meet : Meet hyper entries k l
  pub least : (m : ℕ) → Meet hyper entries k m → l ≤ m

-- the lower of two numbers, of which one may be missing
abbrev pub lower : Option ℕ → ℕ → ℕ
lower None number = number
lower (Some least) number = min least number

abbrev pub no_spot : Spot
no_spot = record { from = 0; to = 0; entry = 0 }

-- the first entry so far that meets another one, with one more
abbrev pub with_meeting : Option ℕ → Bool → ℕ → Option ℕ
with_meeting least true entry = Some (lower least entry)
with_meeting least false entry = least
