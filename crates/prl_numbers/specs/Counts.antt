-- The least number of cells that fit, by the dates of one hyperperiod.
use Rattle.std.specs.Prelude.{◌+◌, ◌*◌, ◌/◌, ◌%◌, ◌<◌, ◌≤◌, ℕ, List, length, slice_index}

-- the release of the used instance at place x, where those of one hyperperiod come again in each
abbrev pub at_turn : List ℕ → ℕ → ℕ → ℕ
at_turn releases hyper x = slice_index releases (x % length releases) + x / length releases * hyper

-- the releases of one hyperperiod do not fall, and are no further apart
pub record AreReleased (releases : List ℕ) (hyper : ℕ) : Type 0 where
  pub some : 1 ≤ length releases
  pub few : length releases ≤ hyper
  pub rises : (x y : ℕ) → x ≤ y → y < length releases → slice_index releases x ≤ slice_index releases y
  pub within : (y : ℕ) → y < length releases → slice_index releases y ≤ slice_index releases 0 + hyper

-- so many places on, each of the first instances is over
abbrev pub AreOver : List ℕ → ℕ → List ℕ → ℕ → ℕ → Type 0
AreOver releases hyper ends upto count = (k : ℕ) → k < upto → slice_index ends k ≤ at_turn releases hyper (k + count)

-- the least number from 1 on for which this is so
pub record IsLeastTurn (releases : List ℕ) (hyper : ℕ) (ends : List ℕ) (upto count : ℕ) : Type 0 where
  pub some : 1 ≤ count
  pub fits : AreOver releases hyper ends upto count
  pub least : (fewer : ℕ) → 1 ≤ fewer → AreOver releases hyper ends upto fewer → count ≤ fewer
