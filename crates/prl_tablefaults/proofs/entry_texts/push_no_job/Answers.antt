use Rattle.prl_tablefaults.specs.EntryTexts.{no_job_text}
use Rattle.prl_tablefaults.proofs.Joins.{joined}
use Rattle.prl_tablefaults.proofs.entry_texts.push_no_job.Goals as goal

pub returns : goal.returns
unfolding no_job_text
returns c =
    joined c.push_classes.result c.args.text.now.items c.push_job_of.new.text.items c.push_classes.new.text.items _ _ c.in_ok-push_job_of.ensures c.push_classes.ensures
