use Rattle.std.proofs.Common.{◌≡◌, drop}
use Rattle.prl_plantext.specs.code.Checks.{actuators_have_one}
use Rattle.prl_plantext.proofs.checking.actuators_have_one.Given as goal

abbrev pub invariant-loop-i : goal.invariant-loop-i
invariant-loop-i l = actuators_have_one l.edges l.i (drop l.i l.tasks) ≡ actuators_have_one l.edges 0 l.tasks
