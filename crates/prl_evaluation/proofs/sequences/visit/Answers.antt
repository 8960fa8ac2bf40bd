use Rattle.prl_base.proofs.Standard.{List, ◌∙◌, ap, length, slice_get}
use Rattle.prl_flow.proofs.Lists.{slice_get_push}
use Rattle.prl_evaluation.specs.declared.sequences.Visited.{Visited}
use Rattle.prl_evaluation.proofs.Begun.{first_too}
use Rattle.prl_evaluation.proofs.sequences.visit.Goals as goal

pub returns-in_default-clause-stack : goal.returns-in_default-clause-stack
returns-in_default-clause-stack c = λ b v at.
    c.loop.invariant.1 b v (ap (λ (vs : List Visited). slice_get vs b) c.in_default.ensures.items ∙ first_too c.pop.new.self.items _ b v at)

pub look-requires-clause-flow : goal.look-requires-clause-flow
look-requires-clause-flow c =
    c.loop.invariant.1 (length c.pop.new.self.items) c.in-Some.top
    (ap (λ (vs : List Visited). slice_get vs (length c.pop.new.self.items)) c.in-Some.ensures.items ∙ slice_get_push c.pop.new.self.items c.in-Some.top)

pub look-requires-clause-stack : goal.look-requires-clause-stack
look-requires-clause-stack c = λ b v at.
    c.loop.invariant.1 b v (ap (λ (vs : List Visited). slice_get vs b) c.in-Some.ensures.items ∙ first_too c.pop.new.self.items _ b v at)
