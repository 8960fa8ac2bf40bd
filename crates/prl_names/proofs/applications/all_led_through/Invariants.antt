use Rattle.std.proofs.Common.{◌≡◌, map}
use Rattle.prl_names.specs.Marks.{led_through}
use Rattle.prl_names.proofs.applications.all_led_through.Given as goal

abbrev pub invariant-loop-row : goal.invariant-loop-row
invariant-loop-row l = l.led.items ≡ map (led_through l.k l.others.items) l.yielded
