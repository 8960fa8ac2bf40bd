-- The hyperperiod: the least number that each flow's period divides.
use Rattle.std.specs.Prelude.{◌≡◌, ◌<◌, ◌≤◌, ◌+◌, ℕ, List, length, take, Some, slice_get}
use Rattle.prl_base.specs.declared.operators.Clock.{Clock}
use Rattle.prl_plan.specs.declared.limits.TheConstants.{MAX_HYPER}
use Rattle.prl_plan.specs.Graphs.{Divides}

-- each of the clocks has a period that divides the number
abbrev pub IsCommonMultiple : List Clock → ℕ → Type 0
IsCommonMultiple clocks n = (i : ℕ) (clock : Clock) → slice_get clocks i ≡ Some clock → Divides clock.period n

-- the least common multiple of the periods: at least 1, and a divisor of each common multiple
pub record IsHyperperiod (clocks : List Clock) (hyper : ℕ) : Type 0 where
  pub positive : 1 ≤ hyper
  pub multiple : IsCommonMultiple clocks hyper
  pub least : (n : ℕ) → IsCommonMultiple clocks n → Divides hyper n

-- the first running least common multiple, clock after clock, that is past the limit
pub record IsPastHyperperiod (clocks : List Clock) (found : ℕ) : Type 0 where
  pub index : ℕ
  pub there : index < length clocks
  pub before : ℕ
  pub before_is : IsHyperperiod (take index clocks) before
  pub within : before ≤ MAX_HYPER
  pub found_is : IsHyperperiod (take (index + 1) clocks) found
  pub past : MAX_HYPER < found
