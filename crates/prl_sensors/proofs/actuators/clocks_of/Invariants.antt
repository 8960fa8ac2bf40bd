use Rattle.std.proofs.Common.{◌≡◌, map, take}
use Rattle.prl_sensors.proofs.actuators.clocks_of.Given as goal

abbrev pub invariant-loop-out : goal.invariant-loop-out
invariant-loop-out l = l.clocks.items ≡ map (λ out. out.clock) (take l.out-index l.outs)
