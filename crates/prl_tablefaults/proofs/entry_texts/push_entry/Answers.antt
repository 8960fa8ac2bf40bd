use Rattle.prl_tablefaults.specs.EntryTexts.{entry_text}
use Rattle.prl_tablefaults.proofs.Joins.{joined}
use Rattle.prl_tablefaults.proofs.entry_texts.push_entry.Goals as goal

pub returns : goal.returns
unfolding entry_text
returns c =
    joined c.push_from.result c.args.text.now.items c.push_numbered.new.text.items c.push_from.new.text.items _ _ c.in_ok-push_numbered.ensures c.push_from.ensures
