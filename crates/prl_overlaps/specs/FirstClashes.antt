-- The first entries of a table that clash. Entry k stands in line k + 3 of its text.
use Rattle.std.specs.Prelude.{◌≡◌, ◌+◌, ◌≤◌, ℕ, List}
use Rattle.prl_overlaps.specs.Overlaps.{Clash}
use Rattle.prl_overlaps.specs.declared.entries.Entry.{Entry}

-- these lines clash, the lower one first; no pair with a lower first line does, and none with this one and a lower second line
pub record IsFirstClash (hyper : ℕ) (entries : List Entry) (first second : ℕ) : Type 0 where
  pub k : ℕ
  pub l : ℕ
  pub first_line : first ≡ k + 3
  pub second_line : second ≡ l + 3
  pub ordered : k ≤ l
  pub clash : Clash hyper entries k l
  pub least : (m n : ℕ) → m ≤ n → Clash hyper entries m n → (k ≤ m) × (m ≡ k → l ≤ n)
