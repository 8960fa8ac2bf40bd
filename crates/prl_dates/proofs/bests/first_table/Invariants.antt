use Rattle.prl_dates.specs.code.Tables.{IsFirstTable}
use Rattle.prl_dates.proofs.bests.first_table.Given as goal

abbrev pub invariant-loop-i : goal.invariant-loop-i
invariant-loop-i l = IsFirstTable l.graph l.first l.i l.table.items
