-- Whole clocks as an assignment.
use Rattle.std.specs.Prelude.{◌≤◌, ℕ, pos, List}
use Rattle.std.proofs.Common.{lit≤}
use Rattle.prl_base.specs.declared.operators.Clock.{Clock}
use Rattle.prl_flow.specs.Solutions.{clock_of}
use Rattle.prl_clock.specs.Assignments.{Assignment}
use Rattle.prl_clock.specs.Timings.{Point}

-- the periods are at least 1
abbrev pub ArePeriods : List Clock → Type 0
ArePeriods clocks = (i : ℕ) → 1 ≤ (clock_of clocks i).period

-- a clock's period and start in ticks
abbrev pub in_ticks : Clock → Point
in_ticks c = record { period = c.period; start = pos c.start }

pub one_part : 1 ≤ 1
one_part = lit≤ tt

-- each flow at its clock, in whole ticks
abbrev pub whole_assignment : (clocks : List Clock) → ArePeriods clocks → Assignment
whole_assignment clocks periods = record { unit = 1; flow = λ i. in_ticks (clock_of clocks i); some = one_part; positive = periods }
