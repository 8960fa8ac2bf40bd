use Rattle.test_calls.specs.Devices.{HaveIntRows}
use Rattle.test_calls.proofs.devices.have_rows.Given as goal

abbrev pub invariant-loop-i : goal.invariant-loop-i
invariant-loop-i l = HaveIntRows l.plan.graph l.horizon.until l.rows l.i
