use Rattle.std.proofs.Common.{◌<◌, length, sym, subst}
use Rattle.prl_plan.specs.Vocabulary.{PlanView, plan_of}
use Rattle.prl_plan.proofs.PlanParts.{used_ordered}
use Rattle.prl_plan.proofs.plans.Plan.place.Goals as goal

pub place-requires-clause-order : goal.place-requires-clause-order
place-requires-clause-order c =
    used_ordered (plan_of c.self.inside.graph c.self.inside.words.of c.self.inside.dates c.self.inside.cells) c.self.invariant c.args.e.0
    (subst (λ (p : PlanView). c.args.e.0 < length p.graph.edges) (sym c.self.view_is) c.requires)
