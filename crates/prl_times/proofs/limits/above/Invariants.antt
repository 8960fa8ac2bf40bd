use Rattle.prl_base.proofs.Standard.{◌≡◌, take}
use Rattle.prl_times.specs.Limits.{rows_above}
use Rattle.prl_times.proofs.limits.above.Given as goal

abbrev pub invariant-loop-row : goal.invariant-loop-row
invariant-loop-row l = l.above.items ≡ rows_above l.limit (take l.row-index l.rows)
