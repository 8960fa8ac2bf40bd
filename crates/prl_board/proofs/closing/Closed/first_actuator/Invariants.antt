use Rattle.std.specs.Prelude.{◌≡◌, ◌<◌, ℕ, Some}
use Rattle.prl_rule.specs.declared.views.Constants.{Constants}
use Rattle.prl_board.specs.Closings.{IsNoActuator}
use Rattle.prl_board.proofs.closing.Closed.first_actuator.Given as goal

-- the tasks so far are no actuators
abbrev pub invariant-loop-i : goal.invariant-loop-i
invariant-loop-i l = (k : Constants) (j : ℕ) → l.self.constants ≡ Some k → j < l.i → IsNoActuator k j
