-- Periods of at most 2^31 - 1.
use Rattle.std.specs.Prelude.{◌≡◌, ◌≤◌, ◌<◌, ◌^◌, ℕ, List, Some, slice_get}
use Rattle.prl_base.specs.declared.operators.Clock.{Clock}

abbrev pub HaveSmallPeriods : List Clock → Type 0
HaveSmallPeriods clocks = (i : ℕ) (clock : Clock) → slice_get clocks i ≡ Some clock → (1 ≤ clock.period) × (clock.period < 2 ^ 31)
