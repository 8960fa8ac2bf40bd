-- The least common multiple of two numbers.
use Rattle.std.specs.Prelude.{◌≤◌, ℕ}
use Rattle.prl_plan.specs.Graphs.{Divides}

pub record IsLeastMultiple (a b multiple : ℕ) : Type 0 where
  pub positive : 1 ≤ multiple
  pub first : Divides a multiple
  pub second : Divides b multiple
  pub least : (n : ℕ) → Divides a n → Divides b n → Divides multiple n
