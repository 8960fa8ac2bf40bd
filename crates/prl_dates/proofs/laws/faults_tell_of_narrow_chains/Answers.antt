use Rattle.prl_plan.proofs.ChainLaws.{none_narrow}
use Rattle.prl_dates.proofs.Circles.{fault_is_narrow}
use Rattle.prl_dates.proofs.laws.faults_tell_of_narrow_chains.Goals as goal

pub returns : goal.returns
returns c = record {
  fault = λ graph fault good is of. fault_is_narrow graph good fault is of;
  room = λ graph windows dates room has. none_narrow graph windows dates room has.0 has.1 has.2;
}
