use Rattle.prl_ages.specs.code.Windows.{AreVerdictsUpTo}
use Rattle.prl_ages.proofs.verdicts.all_verdicts.Given as goal

abbrev pub invariant-loop-s : goal.invariant-loop-s
invariant-loop-s l = AreVerdictsUpTo l.plan.graph l.chain l.fn.a.0 l.s l.list.items
