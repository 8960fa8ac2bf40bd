-- Units of jobs that have all that they cost.
use Rattle.std.specs.Prelude.{◌≡◌, ℕ, List}
use Rattle.prl_plan.specs.Facts.{IsJob}
use Rattle.prl_plan.specs.Runs.{RunConstants}
use Rattle.prl_edf.specs.UnitLists.{units_of, AreUnitLists}

-- lists of all that the jobs cost
pub record AreFullLists (c : RunConstants) (cost : ℕ → ℕ → ℕ) (lists : List (List ℕ)) : Type 0 where
  pub fit : AreUnitLists c cost lists
  pub full : (i n : ℕ) → IsJob c i n → units_of lists i n ≡ cost i n
