use Rattle.std.proofs.Common.{◌≡◌, ◌++◌, drop}
use Rattle.prl_expand.specs.Flats.{devices_of}
use Rattle.prl_expand.proofs.expanding.devices_of.Given as goal

abbrev pub invariant-loop-param : goal.invariant-loop-param
invariant-loop-param l = l.list.items ++ devices_of l.devices (drop l.param-index l.params) ≡ devices_of l.devices l.params
