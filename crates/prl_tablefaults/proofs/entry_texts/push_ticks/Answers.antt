use Rattle.prl_tablefaults.specs.EntryTexts.{span_text}
use Rattle.prl_tablefaults.proofs.Joins.{joined}
use Rattle.prl_tablefaults.proofs.entry_texts.push_ticks.Goals as goal

pub returns : goal.returns
unfolding span_text
returns c =
    joined c.push_numbered-2.result c.args.text.now.items c.push_numbered.new.text.items c.push_numbered-2.new.text.items _ _ c.in_ok-push_numbered.ensures c.push_numbered-2.ensures
