use Rattle.prl_ages.proofs.Reacting.{reaction_is_age}
use Rattle.prl_ages.proofs.laws.worst_reaction_is_the_worst_age.Goals as goal

pub returns : goal.returns
returns c = λ plan chain is s a ticks in_s in_a worst.
    reaction_is_age plan.graph chain is.graph s a in_a (λ k. c.some_instance_is_the_freshest.ensures plan chain is s a k in_s in_a) ticks worst
