use Rattle.std.proofs.Common.{◌≡◌, map, take}
use Rattle.prl_base.specs.declared.numbers.FlowNo.{FlowNo}
use Rattle.prl_flow.specs.Vocabulary.{dates_before, clock_of}
use Rattle.prl_calls.proofs.rows.input_needs.Given as goal

-- the needs of the flows so far
abbrev pub invariant-loop-flow : goal.invariant-loop-flow
invariant-loop-flow l =
    l.needs.items ≡ map (λ (flow : FlowNo). dates_before l.until (clock_of l.clocks.of flow.0)) (take l.flow-index l.flat.ins)
