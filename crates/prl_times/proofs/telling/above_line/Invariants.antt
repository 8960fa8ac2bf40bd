use Rattle.prl_base.proofs.Standard.{◌≡◌, take}
use Rattle.prl_times.specs.Refused.{above_line}
use Rattle.prl_times.proofs.telling.above_line.Given as goal

abbrev pub invariant-loop-row : goal.invariant-loop-row
invariant-loop-row l = l.line.items ≡ above_line l.plan.graph l.chain l.limit (take l.row-index l.rows)
