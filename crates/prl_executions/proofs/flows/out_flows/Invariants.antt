use Rattle.std.proofs.Common.{◌≡◌, ◌++◌, drop, vec_items}
use Rattle.prl_replay.specs.Outputs.{out_flows}
use Rattle.prl_executions.proofs.flows.out_flows.Given as goal

-- the flows so far and those of the outputs that are left are those of all outputs
abbrev pub invariant-loop-flow : goal.invariant-loop-flow
invariant-loop-flow l =
    let all = out_flows l.run.flat.out_devices l.run.clocks.of l.table in record {
      place : l.k ≡ l.flow-index;
      told : vec_items l.outs ++ all l.k (drop l.flow-index l.flows) ≡ all 0 l.flows;
    }
