use Rattle.prl_tablefaults.specs.FaultTexts.{pair_text}
use Rattle.prl_tablefaults.proofs.Joins.{joined}
use Rattle.prl_tablefaults.proofs.fault_texts.push_pair.Goals as goal

pub returns : goal.returns
unfolding pair_text
returns c =
    joined c.push_line-2.result c.args.text.now.items c.push_line.new.text.items c.push_line-2.new.text.items _ _ c.in_ok-push_line.ensures c.push_line-2.ensures
