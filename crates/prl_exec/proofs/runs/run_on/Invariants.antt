use Rattle.prl_board.specs.Lones.{IsLoneOf}
use Rattle.prl_exec.proofs.runs.run_on.Given as goal

abbrev pub invariant-loop : goal.invariant-loop
invariant-loop g l = IsLoneOf l.board l.lone
