use Rattle.prl_base.proofs.Standard.{◌≡◌, take}
use Rattle.prl_timetext.specs.Texts.{rows_text}
use Rattle.prl_timetext.proofs.texts.text_of.Given as goal

abbrev pub invariant-loop-row : goal.invariant-loop-row
invariant-loop-row l = l.text.items ≡ rows_text l.plan.graph l.chain (take l.row-index l.rows)
