use Rattle.prl_tablefaults.specs.FaultTexts.{clash_text}
use Rattle.prl_tablefaults.proofs.Joins.{joined}
use Rattle.prl_tablefaults.proofs.fault_texts.push_clash.Goals as goal

pub returns : goal.returns
unfolding clash_text
returns c =
    joined c.push_again.result c.args.text.now.items c.push_pair.new.text.items c.push_again.new.text.items _ _ c.in_ok-push_pair.ensures c.push_again.ensures
