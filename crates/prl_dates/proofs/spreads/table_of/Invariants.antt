use Rattle.prl_dates.specs.code.Spreads.{IsTablePart}
use Rattle.prl_dates.proofs.spreads.table_of.Given as goal

abbrev pub invariant-loop-i : goal.invariant-loop-i
invariant-loop-i l = IsTablePart l.plan l.bound l.i 0 l.table.items
