use Rattle.std.proofs.Common.{◌≡◌, ℕ, [], length}
use Rattle.prl_flow.specs.Solutions.{values_of}
use Rattle.prl_evaluation.proofs.evaluation.empty_flows.Given as goal

abbrev pub invariant-loop-clock : goal.invariant-loop-clock
invariant-loop-clock l = (length l.flows.items ≡ l.clock-index) × ((i : ℕ) → values_of l.flows.items i ≡ [])
