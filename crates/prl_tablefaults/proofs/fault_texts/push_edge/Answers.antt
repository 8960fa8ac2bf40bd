use Rattle.prl_tablefaults.specs.FaultTexts.{edge_text}
use Rattle.prl_tablefaults.proofs.Joins.{joined}
use Rattle.prl_tablefaults.proofs.fault_texts.push_edge.Goals as goal

pub returns : goal.returns
unfolding edge_text
returns c =
    joined c.push_edge_no.result c.args.text.now.items c.push_consumer.new.text.items c.push_edge_no.new.text.items _ _ c.in_ok-push_consumer.ensures c.push_edge_no.ensures
