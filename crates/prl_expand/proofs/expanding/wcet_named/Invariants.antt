use Rattle.std.proofs.Common.{◌≡◌, drop}
use Rattle.prl_expand.specs.Flats.{wcet_named}
use Rattle.prl_expand.proofs.expanding.wcet_named.Given as goal

abbrev pub invariant-loop-device : goal.invariant-loop-device
invariant-loop-device l = wcet_named (drop l.device-index l.devices) l.name ≡ wcet_named l.devices l.name
