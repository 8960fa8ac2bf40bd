use Rattle.prl_base.proofs.Standard.{◌+◌, []}
use Rattle.prl_influence.proofs.Shown.{values_same, agree_on_feeding}
use Rattle.prl_influence.proofs.laws.values_show_no_later_samples.Goals as goal

pub returns : goal.returns
returns c = λ plan is bodies rows other until i n inside agree.
    values_same plan.graph bodies rows other (until + plan.graph.hyper) i n
    (agree_on_feeding plan.graph is.graph rows other i n inside (λ s in_s. c.some_instance_is_the_freshest.ensures plan [] is s i n in_s inside) agree)
