use Rattle.prl_tablefaults.specs.EntryTexts.{window_text}
use Rattle.prl_tablefaults.proofs.Joins.{joined}
use Rattle.prl_tablefaults.proofs.entry_texts.push_window.Goals as goal

pub returns : goal.returns
unfolding window_text
returns c =
    joined c.push_dates.result c.args.text.now.items c.push_job_of.new.text.items c.push_dates.new.text.items _ _ c.in_ok-push_job_of.ensures c.push_dates.ensures
