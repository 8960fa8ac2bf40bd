-- The words of this crate that clauses and proofs use, from one place.
pub use Rattle.prl_flow.specs.Standings.{HasClock, IsFirstFree, alone, over_one, same_clock}
pub use Rattle.prl_flow.specs.Standings.{standing_at}
pub use Rattle.prl_clock.specs.Assignments.{Assignment, Connected, IsConsistent, IsJoin, IsLowest}
pub use Rattle.prl_clock.specs.Assignments.{Joins, Meets, MeetsAll, Passes, here, on, period}
pub use Rattle.prl_clock.specs.Assignments.{period_over, start, start_over, tick}
pub use Rattle.prl_clock.specs.Constraints.{Constraint, Placed, argument_constraint}
pub use Rattle.prl_clock.specs.Constraints.{constraints_below, constraints_of}
pub use Rattle.prl_clock.specs.Constraints.{definition_constraints, first_output, flow_constraints}
pub use Rattle.prl_clock.specs.Constraints.{output_constraints, rate_constraints, rated}
pub use Rattle.prl_clock.specs.Constraints.{related, timing_of_operator, timing_of_rate}
pub use Rattle.prl_clock.specs.Outcomes.{AreOnlyClocks, GivesClock, HasChoice, HasTiming}
pub use Rattle.prl_clock.specs.Outcomes.{IsClockFault, IsDetermined, IsFine, IsFree, IsMismatch}
pub use Rattle.prl_clock.specs.Outcomes.{IsNotWhole, IsOutcome, IsPastLimit, IsWhole, clock_limit}
pub use Rattle.prl_clock.specs.Timings.{IsOver, IsPeriodOver, IsRatio, IsStartOver, Point}
pub use Rattle.prl_clock.specs.Whole.{ArePeriods, whole_assignment}
pub use Rattle.prl_clock.specs.code.Composition.{HasParts, IsComposed, IsComposedPast, IsOverPast}
pub use Rattle.prl_clock.specs.code.Composition.{IsPastTerms, IsProduct, IsSmallTiming, IsSum}
pub use Rattle.prl_clock.specs.code.Composition.{composed_period, composed_start, over_period}
pub use Rattle.prl_clock.specs.code.Composition.{over_start}
pub use Rattle.prl_clock.specs.code.Finishing.{IsLabelOf, IsWholeClock}
pub use Rattle.prl_clock.specs.code.Listed.{AreListed, joint_list, listed_at}
pub use Rattle.prl_clock.specs.code.Progress.{IsReached, IsStop, IsStopped, told}
pub use Rattle.prl_clock.specs.code.Rates.{IsReducedTiming, IsTimingPast}
pub use Rattle.prl_clock.specs.code.Standings.{AreChanged, AreMoved, AreStandings, AreTimed}
pub use Rattle.prl_clock.specs.code.Standings.{HasRate, HaveChanged, IsEven, IsStuck, IsTold}
pub use Rattle.prl_clock.specs.code.Standings.{IsJoint, IsLink, IsLowClock, IsLowClockPast}
pub use Rattle.prl_clock.specs.code.Standings.{IsMerging, IsMoved, IsOnePast, IsOpen, IsRated}
pub use Rattle.prl_clock.specs.code.Standings.{IsRefused, IsSolved, IsTimed, LowClock}
pub use Rattle.prl_clock.specs.code.Standings.{of_high, of_high_past, of_low, of_low_past, root_at}
pub use Rattle.prl_clock.specs.declared.calculus.ClockFault.{ClockFault}
pub use Rattle.prl_flow.specs.declared.standings.Standing.{Standing}
pub use Rattle.prl_clock.specs.declared.steps.Refusal.{Refusal}
pub use Rattle.prl_flow.specs.declared.standings.Timing.{Timing}
