use Rattle.std.proofs.Common.{◌≡◌, ◌++◌, drop}
use Rattle.prl_types.specs.Flows.{port_types}
use Rattle.prl_types.proofs.contexts.add_ports.Given as goal

abbrev pub invariant-loop-port : goal.invariant-loop-port
invariant-loop-port l = l.terms.items ++ port_types (drop l.port-index l.ports) ≡ l.initial.terms.items ++ port_types l.ports
