use Rattle.prl_plan.proofs.JobTableLaws.{reads_earlier}
use Rattle.prl_words.proofs.jobs.operands_stand_earlier.Goals as goal

pub returns : goal.returns
returns c = reads_earlier
