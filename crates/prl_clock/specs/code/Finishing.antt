-- What is looked at after all constraints.
use Rattle.std.specs.Prelude.{◌≡◌, ℕ, List, Some, nat_abs, slice_get}
use Rattle.prl_base.specs.declared.operators.Clock.{Clock}
use Rattle.prl_flow.specs.declared.programs.Flow.{Flow}
use Rattle.prl_flow.specs.Programs.{FlatProgram}
use Rattle.prl_clock.specs.Outcomes.{IsWhole}
use Rattle.prl_flow.specs.declared.standings.Timing.{Timing}

-- the whole clock of a timing
pub record IsWholeClock (t : Timing) (c : Clock) : Type 0 where
  pub whole : IsWhole t.period t.start
  pub period : c.period ≡ nat_abs t.period.num
  pub start : c.start ≡ nat_abs t.start.num

-- the label of the flow of this number
pub record IsLabelOf (p : FlatProgram) (i : ℕ) (label : List ℕ) : Type 0 where
  pub flow : Flow
  pub found : slice_get p.flows i ≡ Some flow
  pub is : label ≡ flow.label
