-- Strictly periodic clocks.
use Rattle.std.specs.Prelude.{◌≡◌, ◌+◌, ◌*◌, ◌≤◌, ℕ}
use Rattle.prl_base.specs.declared.operators.Clock.{Clock}

-- a clock has a whole period of at least 1; its start is any whole number
abbrev pub IsClock : Clock → Type 0
IsClock c = 1 ≤ c.period

-- the dates of a clock, in order, by their number from 0
abbrev pub date_at : Clock → ℕ → ℕ
date_at c k = c.start + k * c.period

-- t is a date of the clock
abbrev pub IsDate : Clock → ℕ → Type 0
IsDate c t = (k : ℕ) × (t ≡ date_at c k)
