use Rattle.prl_base.proofs.Standard.{◌≡◌, ◌++◌, take, flat_map}
use Rattle.prl_print.specs.Printing.{printed_device}
use Rattle.prl_print.proofs.printing.push_devices.Given as goal

abbrev pub invariant-loop-device : goal.invariant-loop-device
invariant-loop-device l = l.text.items ≡ l.initial.text.items ++ flat_map (printed_device l.keyword) (take l.device-index l.devices)
