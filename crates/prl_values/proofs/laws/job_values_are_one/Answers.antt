use Rattle.prl_values.proofs.Settled.{agree, agree_reads, agree_on}
use Rattle.prl_values.proofs.laws.job_values_are_one.Goals as goal

pub returns : goal.returns
returns c = record { given = agree; reads = agree_reads; edges = agree_on }
