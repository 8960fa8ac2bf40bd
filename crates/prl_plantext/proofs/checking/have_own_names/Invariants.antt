use Rattle.std.proofs.Common.{◌≡◌, length}
use Rattle.prl_plantext.specs.code.Checks.{have_own_names}
use Rattle.prl_plantext.proofs.checking.have_own_names.Given as goal

abbrev pub invariant-loop-rest : goal.invariant-loop-rest
invariant-loop-rest l = have_own_names l.rest ≡ have_own_names l.tasks

abbrev pub decreases-loop-rest : goal.decreases-loop-rest
decreases-loop-rest l = length l.rest
