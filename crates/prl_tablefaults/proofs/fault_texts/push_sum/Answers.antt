use Rattle.prl_tablefaults.specs.FaultTexts.{sum_text}
use Rattle.prl_tablefaults.proofs.Joins.{joined}
use Rattle.prl_tablefaults.proofs.fault_texts.push_sum.Goals as goal

pub returns : goal.returns
unfolding sum_text
returns c =
    joined c.push_mend.result c.args.text.now.items c.push_have.new.text.items c.push_mend.new.text.items _ _ c.in_ok-push_have.ensures c.push_mend.ensures
