-- What the clocks of a flat program are, and why it has none.
use Rattle.std.specs.Prelude.{◌≡◌, ◌<◌, ◌≤◌, ◌+◌, ◌*◌, ◌*ℤ◌, ◌≤ℤ◌, ℕ, pos, List, length, take, Some, slice_get, Result, Ok, Err}
use Rattle.prl_base.specs.Ratios.{Fraction}
use Rattle.prl_base.specs.declared.limits.Limit.{Limit}
use Rattle.prl_base.specs.declared.limits.What.TheVariants as limits
use Rattle.prl_base.specs.declared.operators.Clock.{Clock}
use Rattle.prl_flow.specs.declared.programs.Flow.{Flow}
use Rattle.prl_flow.specs.Programs.{FlatProgram}
use Rattle.prl_flow.specs.Solutions.{AreClocks, clock_of}
use Rattle.prl_clock.specs.Assignments.{Assignment, tick, MeetsAll, IsConsistent, Passes}
use Rattle.prl_clock.specs.Constraints.{Placed, constraints_of}
use Rattle.prl_clock.specs.Timings.{IsPeriodOver, IsStartOver}
use Rattle.prl_clock.specs.declared.calculus.ClockFault.{ClockFault}
use Rattle.prl_clock.specs.declared.calculus.ClockFault.TheVariants as faults

-- some assignment meets the constraints, and after none of them a number is past the limit
pub record IsFine (cs : List Placed) : Type 0 where
  pub consistent : IsConsistent cs
  pub within : (k : ℕ) → k ≤ length cs → Passes (take k cs) → ⊥

-- the first constraint after which no assignment is left, and none before it is past the limit
pub record IsMismatch (cs : List Placed) (at : ℕ) : Type 0 where
  pub index : ℕ
  pub placed : Placed
  pub found : slice_get cs index ≡ Some placed
  pub is : placed.at ≡ at
  pub before : IsFine (take index cs)
  pub none : IsConsistent (take (index + 1) cs) → ⊥

-- the first constraint after which assignments are left, and a number is past the limit
pub record IsPastLimit (cs : List Placed) : Type 0 where
  pub index : ℕ
  pub here : index < length cs
  pub before : IsFine (take index cs)
  pub consistent : IsConsistent (take (index + 1) cs)
  pub passes : Passes (take (index + 1) cs)

-- the two give the flow one clock
pub record Agree (s t : Assignment) (x : ℕ) : Type 0 where
  pub period : (s.flow x).period * t.unit ≡ (t.flow x).period * s.unit
  pub start : (s.flow x).start *ℤ pos t.unit ≡ (t.flow x).start *ℤ pos s.unit

-- the constraints leave no choice of the flow's clock
abbrev pub IsDetermined : List Placed → ℕ → Type 0
IsDetermined cs x = (s t : Assignment) → MeetsAll s cs → MeetsAll t cs → Agree s t x

-- two assignments differ at this flow
pub record HasChoice (cs : List Placed) (x : ℕ) : Type 0 where
  pub one : Assignment
  pub other : Assignment
  pub meets_one : MeetsAll one cs
  pub meets_other : MeetsAll other cs
  pub differ : Agree one other x → ⊥

-- the lowest flow of which the constraints leave a choice
pub record IsFree (p : FlatProgram) (label : List ℕ) : Type 0 where
  pub fine : IsFine (constraints_of p)
  pub index : ℕ
  pub flow : Flow
  pub found : slice_get p.flows index ≡ Some flow
  pub is : label ≡ flow.label
  pub choice : HasChoice (constraints_of p) index
  pub lowest : (i : ℕ) → i < index → IsDetermined (constraints_of p) i

-- these are the period and the start of the flow in ticks, in lowest terms
abbrev pub HasTiming : List Placed → ℕ → Fraction → Fraction → Type 0
HasTiming cs x period start =
    (s : Assignment) → MeetsAll s cs → IsPeriodOver period (s.flow x) (tick s) × IsStartOver start (s.flow x) (tick s)

-- whole, and not below 0
abbrev pub IsWhole : Fraction → Fraction → Type 0
IsWhole period start = (period.den ≡ 1) × (start.den ≡ 1) × (pos 0 ≤ℤ start.num)

-- each flow has one clock, and this is the lowest whose clock is not whole or starts below 0
pub record IsNotWhole (p : FlatProgram) (label : List ℕ) (period start : Fraction) : Type 0 where
  pub fine : IsFine (constraints_of p)
  pub determined : (i : ℕ) → i < length p.flows → IsDetermined (constraints_of p) i
  pub index : ℕ
  pub flow : Flow
  pub found : slice_get p.flows index ≡ Some flow
  pub is : label ≡ flow.label
  pub timing : HasTiming (constraints_of p) index period start
  pub parts : IsWhole period start → ⊥
  pub lowest : (i : ℕ) (t u : Fraction) → i < index → HasTiming (constraints_of p) i t u → IsWhole t u

-- the assignment gives the flow this clock
pub record GivesClock (s : Assignment) (x : ℕ) (c : Clock) : Type 0 where
  pub period : (s.flow x).period ≡ c.period * s.unit
  pub start : (s.flow x).start ≡ pos (c.start * s.unit)

-- clocks of the program, the only ones that the constraints leave
pub record AreOnlyClocks (p : FlatProgram) (clocks : List Clock) : Type 0 where
  pub fine : IsFine (constraints_of p)
  pub are : AreClocks p clocks
  pub only : (s : Assignment) → MeetsAll s (constraints_of p) → (i : ℕ) → i < length clocks → GivesClock s i (clock_of clocks i)

-- what a number of a clock past the limit is told as
abbrev pub clock_limit : Limit
clock_limit = record { what = limits.Clock; found = 2147483648 }

-- why there are no clocks; want of memory has no cause
abbrev pub IsClockFault : FlatProgram → ClockFault → Type 0
IsClockFault p (faults.Mismatch at) = IsMismatch (constraints_of p) at
IsClockFault p (faults.Limit limit) = (limit ≡ clock_limit) × IsPastLimit (constraints_of p)
IsClockFault p (faults.Free label) = IsFree p label
IsClockFault p (faults.NotWhole label period start) = IsNotWhole p label period start
IsClockFault p faults.Memory = Unit {0}

-- what a flat program has: its clocks, or one fault; want of memory is none
abbrev pub IsOutcome : FlatProgram → Result (List Clock) ClockFault → Type 0
IsOutcome p (Ok clocks) = AreOnlyClocks p clocks
IsOutcome p (Err faults.Memory) = ⊥
IsOutcome p (Err (faults.Mismatch at)) = IsMismatch (constraints_of p) at
IsOutcome p (Err (faults.Limit limit)) = (limit ≡ clock_limit) × IsPastLimit (constraints_of p)
IsOutcome p (Err (faults.Free label)) = IsFree p label
IsOutcome p (Err (faults.NotWhole label period start)) = IsNotWhole p label period start
