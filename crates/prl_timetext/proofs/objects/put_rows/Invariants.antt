use Rattle.prl_base.proofs.Standard.{◌≡◌, ◌++◌, take}
use Rattle.prl_timetext.specs.Objects.{rows_tokens}
use Rattle.prl_timetext.proofs.objects.put_rows.Given as goal

abbrev pub invariant-loop-row : goal.invariant-loop-row
invariant-loop-row l = (l.w.tokens ≡ l.fn.w.tokens ++ rows_tokens l.plan.graph (take l.row-index l.rows)) × (l.w.before ≡ l.fn.w.before)
