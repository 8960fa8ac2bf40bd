-- Flows of too many values.
use Rattle.std.proofs.Common.{ℕ, refl, ap, subst, sym}
use Rattle.prl_evaluation.specs.Evaluations.{IsFlowFault}
use Rattle.prl_evaluation.specs.declared.evaluation.FlowFault.{FlowFault}
use Rattle.prl_evaluation.specs.declared.evaluation.FlowFault.TheVariants as flows
use Rattle.prl_flow.specs.Counts.{values_before}
use Rattle.prl_stages.specs.Vocabulary.{Given, HasRows, stop_of, told_flow}
use Rattle.prl_stages.specs.declared.faults.Fault.TheVariants as faults
use Rattle.prl_stages.specs.declared.stages.Stage.TheVariants as stages
use Rattle.prl_executions.specs.code.Flows.{HasRowsUntil}
use Rattle.prl_calls.specs.Stops.{StopsAt}
use Rattle.prl_calls.specs.declared.rows.Run.{Run}

by_fault : (g : Given) (run : Run) (fault : FlowFault) → HasRows g run.flat run.clocks.of run.sensors → IsFlowFault (values_before g.until run.clocks.of) fault
    → StopsAt g stages.Values (stop_of stages.Values (told_flow fault))
by_fault g run (flows.Limit limit) rows is = (refl, (run.flat, run.clocks.of, rows.clocked, is.1, ap faults.Limit is.0))
by_fault g run flows.Memory rows is = tt

-- the fault of an evaluation is that of its stage
pub too_many_values : (g : Given) (until : ℕ) (run : Run) (fault : FlowFault) → HasRowsUntil g until run → IsFlowFault (values_before until run.clocks.of) fault
    → StopsAt g stages.Values (stop_of stages.Values (told_flow fault))
too_many_values g until run fault has is =
    by_fault g run fault has.rows (subst (λ (u : ℕ). IsFlowFault (values_before u run.clocks.of) fault) (sym has.date) is)
