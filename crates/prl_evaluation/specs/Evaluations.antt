-- What evaluation gives, and when it does not.
use Rattle.std.specs.Prelude.{◌≡◌, ◌<◌, ℕ, List}
use Rattle.prl_base.specs.declared.limits.What.TheVariants as whats
use Rattle.prl_base.specs.declared.operators.Clock.{Clock}
use Rattle.prl_base.specs.declared.values.Value.{Value}
use Rattle.prl_body.specs.declared.bodies.CheckedBody.{CheckedBody}
use Rattle.prl_flow.specs.Programs.{FlatProgram}
use Rattle.prl_flow.specs.Rows.{Rows}
use Rattle.prl_flow.specs.States.{IsSolution, State}
use Rattle.prl_causal.specs.Conditions.{clocks_in, values_in}
use Rattle.prl_evaluation.specs.declared.evaluation.FlowFault.{FlowFault}
use Rattle.prl_evaluation.specs.declared.evaluation.TheConstants.{MAX_VALUES}
use Rattle.prl_evaluation.specs.declared.evaluation.FlowFault.TheVariants as faults

-- these clocks and values, with some registers, are a solution of the program, and there is no other over these clocks
pub record AreSolution (p : FlatProgram) (clocks : List Clock) (bodies : List CheckedBody) (rows : Rows) (until : ℕ) (flows : List (List Value)) : Type 0 where
  pub state : State
  pub is : IsSolution p bodies rows until state
  pub clocks_are : clocks_in state ≡ clocks
  pub values_are : values_in state ≡ flows
  pub only : (other : State) → IsSolution p bodies rows until other → clocks_in other ≡ clocks → other ≡ state

-- the limit is passed by this many values; want of memory is free
abbrev pub IsFlowFault : ℕ → FlowFault → Type 0
IsFlowFault values (faults.Limit limit) = (limit ≡ record { what = whats.Values; found = values }) × (MAX_VALUES < values)
IsFlowFault values faults.Memory = Unit {0}
