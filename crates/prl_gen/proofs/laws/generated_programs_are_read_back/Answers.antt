use Rattle.prl_gen.proofs.Ranges.{generated_reads_back}
use Rattle.prl_gen.proofs.laws.generated_programs_are_read_back.Goals as goal

pub returns : goal.returns
returns c = generated_reads_back
