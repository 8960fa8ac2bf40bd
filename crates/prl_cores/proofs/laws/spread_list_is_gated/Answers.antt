use Rattle.std.specs.Prelude.{pos, nat_abs, slice_index}
use Rattle.prl_plan.specs.Vocabulary.{encoded_release, constants_of, constants_on, opening}
use Rattle.prl_cores.proofs.SpreadFacts.{no_earlier}
use Rattle.prl_cores.proofs.Earlier.{gated_list_earlier}
use Rattle.prl_cores.proofs.laws.spread_list_is_gated.Goals as goal

pub returns : goal.returns
returns c = λ plan horizon placement is of spread events legal.
    gated_list_earlier (constants_of plan horizon) (λ i n. nat_abs (encoded_release plan.graph placement.windows i (pos n))) (λ i. slice_index placement.processors i)
    (no_earlier plan is horizon of (c.plans_keep_facts.ensures plan horizon is of) placement spread) (opening (constants_of plan horizon)) events
    (c.legal_list_is_gated.ensures (constants_on plan placement horizon) (c.spread_plans_keep_facts.ensures plan horizon placement is of spread) events legal)
