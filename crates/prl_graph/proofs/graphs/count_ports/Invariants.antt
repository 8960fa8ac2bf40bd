use Rattle.std.proofs.Common.{◌≡◌, ◌+◌, length, take}
use Rattle.prl_graph.specs.Vocabulary.{application_ports, told}
use Rattle.prl_graph.proofs.graphs.count_ports.Given as goal

abbrev pub invariant-loop-app : goal.invariant-loop-app
invariant-loop-app l = l.count ≡ told (length l.flat.outs + length (application_ports 0 (take l.app-index l.flat.apps)))
