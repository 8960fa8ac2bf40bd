use Rattle.prl_ages.proofs.Falling.{first_show_all}
use Rattle.prl_ages.proofs.laws.first_jobs_show_the_worst_age.Goals as goal

pub returns : goal.returns
returns c = λ graph chain good s a until jobs worst in_s in_a m k reaches room below. first_show_all graph chain good s a until in_s in_a jobs worst m k reaches room below
