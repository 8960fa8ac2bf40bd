use Rattle.prl_tablefaults.specs.EntryTexts.{from_text}
use Rattle.prl_tablefaults.proofs.Joins.{joined}
use Rattle.prl_tablefaults.proofs.entry_texts.push_from.Goals as goal

pub returns : goal.returns
unfolding from_text
returns c =
    joined c.push_ticks.result c.args.text.now.items c.push_job_of.new.text.items c.push_ticks.new.text.items _ _ c.in_ok-push_job_of.ensures c.push_ticks.ensures
