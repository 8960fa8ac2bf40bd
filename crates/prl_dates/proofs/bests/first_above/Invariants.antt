use Rattle.prl_dates.specs.code.Tables.{IsNowhereAbove}
use Rattle.prl_dates.proofs.bests.first_above.Given as goal

abbrev pub invariant-loop-i : goal.invariant-loop-i
invariant-loop-i l = IsNowhereAbove l.graph l.i l.high l.low
