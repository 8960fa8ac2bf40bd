use Rattle.prl_ages.specs.code.Windows.{AreTurns}
use Rattle.prl_ages.proofs.settling.turns_of_tasks.Given as goal

abbrev pub invariant-loop-e : goal.invariant-loop-e
invariant-loop-e l = AreTurns l.plan.graph l.e l.turns.items
