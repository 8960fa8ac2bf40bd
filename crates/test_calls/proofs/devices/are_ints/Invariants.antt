use Rattle.test_calls.specs.Devices.{AreInts}
use Rattle.test_calls.proofs.devices.are_ints.Given as goal

abbrev pub invariant-loop-value : goal.invariant-loop-value
invariant-loop-value l = AreInts l.value-index l.values
