use Rattle.std.proofs.Common.{◌≡◌, take}
use Rattle.prl_sensors.proofs.outputs.lend.Given as goal

abbrev pub invariant-loop-out : goal.invariant-loop-out
invariant-loop-out l = l.lent.items ≡ take l.out-index l.outs
