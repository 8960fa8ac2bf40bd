-- Entries of a table that have a tick in common after shifts by hyperperiods.
use Rattle.std.specs.Prelude.{◌≡◌, ◌+◌, ◌*◌, ◌<◌, ◌≤◌, ◌^◌, ℕ, List, Some, slice_get}
use Rattle.prl_overlaps.specs.declared.entries.Entry.{Entry}

-- the entry, moved by a hyperperiods, and the other one, moved by b, have a tick in common
pub record Overlap (hyper : ℕ) (one other : Entry) (a b : ℕ) : Type 0 where
  pub starts : one.at + a * hyper < other.at + b * hyper + other.units
  pub ends : other.at + b * hyper < one.at + a * hyper + one.units

-- entries k and l have a tick in common after some shifts by hyperperiods; an entry with itself after two that differ
pub record Clash (hyper : ℕ) (entries : List Entry) (k l : ℕ) : Type 0 where
  pub one : Entry
  pub other : Entry
  pub first : slice_get entries k ≡ Some one
  pub second : slice_get entries l ≡ Some other
  pub a : ℕ
  pub b : ℕ
  pub overlap : Overlap hyper one other a b
  pub differ : k ≡ l → a ≡ b → ⊥

-- no two entries clash
abbrev pub AreApart : ℕ → List Entry → Type 0
AreApart hyper entries = (k l : ℕ) → Clash hyper entries k l → ⊥

-- an entry with units, no longer than the hyperperiod
pub record IsShort (hyper : ℕ) (entry : Entry) : Type 0 where
  pub long : (1 ≤ hyper) × (hyper < 2 ^ 32)
  pub units : (1 ≤ entry.units) × (entry.units ≤ hyper)

abbrev pub AreShort : ℕ → List Entry → Type 0
AreShort hyper entries = (k : ℕ) (entry : Entry) → slice_get entries k ≡ Some entry → IsShort hyper entry
