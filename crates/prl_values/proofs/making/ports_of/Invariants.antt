use Rattle.std.proofs.Common.{◌≡◌, length, take}
use Rattle.prl_values.specs.Fitting.{port_types}
use Rattle.prl_values.proofs.making.ports_of.Given as goal

-- the ports of the edges so far
abbrev pub invariant-loop-edge : goal.invariant-loop-edge
invariant-loop-edge l = l.count ≡ length (port_types (take l.edge-index l.edges) l.i)
