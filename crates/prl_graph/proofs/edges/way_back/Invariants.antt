use Rattle.std.proofs.Common.{◌<◌, length}
use Rattle.prl_graph.specs.code.Steps.{StepsBack}
use Rattle.prl_graph.proofs.edges.way_back.Given as goal

abbrev pub invariant-loop : goal.invariant-loop
invariant-loop l = record {
  within : l.at.0 < length l.flat.flows;
  steps : StepsBack l.flat l.counter l.fn.from.0 l.ops.items l.at.0;
}
