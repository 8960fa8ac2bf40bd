-- How many values flows have.
use Rattle.std.specs.Prelude.{◌+◌, ◌-◌, ◌/◌, ℕ, List, sum_by, nat_le, if◌then◌else◌}
use Rattle.prl_base.specs.declared.operators.Clock.{Clock}

-- how many dates of the clock come before `until`
abbrev pub dates_before : ℕ → Clock → ℕ
dates_before until c = if nat_le until c.start then 0 else (until - c.start + c.period - 1) / c.period

-- how many values flows on these clocks have before `until`, all together
abbrev pub values_before : ℕ → List Clock → ℕ
values_before until clocks = sum_by (dates_before until) clocks
