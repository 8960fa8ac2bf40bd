use Rattle.prl_base.proofs.Standard.{rules, filter_same}
use Rattle.prl_dates.proofs.spreads.keep_within.Goals as goal

pub returns : goal.returns
returns c = filter_same _ _ _ (λ x b f' k. search rules) _ _ c.retain.ensures.filtered
