use Rattle.prl_ages.proofs.Freshest.{freshest_or_none}
use Rattle.prl_ages.proofs.laws.some_instance_is_the_freshest.Goals as goal

pub returns : goal.returns
returns c = λ plan chain is s t n in_s in_t.
    freshest_or_none plan chain is (λ before after precedes. (c.encoded_dates_keep_order.ensures.earlier plan is before after precedes).0) s t n in_s
