use Rattle.prl_plan.proofs.HorizonLaws.{horizon_or_limit, one_horizon, horizon_within, one_limit}
use Rattle.prl_plan.proofs.laws.horizons_end_one_way.Goals as goal

pub returns : goal.returns
returns c = record {
  end = λ plan is until small. horizon_or_limit plan until is.graph small;
  one_horizon = one_horizon;
  not_both = λ plan until horizon limit is e past. horizon_within plan until horizon limit is e past;
  one_limit = one_limit;
}
