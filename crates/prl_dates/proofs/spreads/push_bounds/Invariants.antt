use Rattle.prl_dates.specs.code.Spreads.{IsTablePart}
use Rattle.prl_dates.proofs.spreads.push_bounds.Given as goal

abbrev pub invariant-loop-n : goal.invariant-loop-n
invariant-loop-n l = IsTablePart l.plan l.bound l.i.0 l.n l.table.items
