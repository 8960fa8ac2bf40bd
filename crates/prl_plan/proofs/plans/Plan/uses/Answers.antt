use Rattle.prl_base.proofs.Standard.{◌≡◌, ◌<◌, ◌↔◌, ℕ, Option, Some, None, Bool, true, false, length, sym, ◌∙◌, is_some, IsTrue}
use Rattle.prl_plan.specs.Vocabulary.{IsUsed, PlanView, IsPlan, edge_at, place_on}
use Rattle.prl_plan.proofs.PlanParts.{used_place, place_used}
use Rattle.prl_plan.proofs.plans.Plan.uses.Goals as goal

tells : (plan : PlanView) → IsPlan plan → (e m : ℕ) → e < length plan.graph.edges → (o : Option ℕ) → o ≡ place_on plan e m → (b : Bool) → b ≡ is_some o →
    (IsTrue b ↔ IsUsed (edge_at plan.graph e) m)
tells plan is e m inside None at b told =
    ((λ yes. (let n : false ≡ true = sym told ∙ yes in cc)), (λ used. (let p = used_place plan is e inside m used in let n : ◌≡◌ {A = Option ℕ} None (Some p.0) = at ∙ p.1 in cc)))
tells plan is e m inside (Some k) at b told =
    ((λ yes. (place_used plan is e inside m k (sym at)).0), (λ used. told))

pub returns-clause-used : goal.returns-clause-used
returns-clause-used c = tells c.args.self.now c.place.ensures.plan c.args.e.0 c.args.m c.requires c.place.result c.place.ensures.at c.is_some.result c.is_some.ensures
