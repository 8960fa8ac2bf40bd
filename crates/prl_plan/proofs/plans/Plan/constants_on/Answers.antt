use Rattle.prl_base.proofs.Standard.{arith, ◌≡◌, ◌<◌, ℕ, List, Some, length, sym, ◌∙◌, ap, subst, slice_get, slice_get-get_or, same_Some}
use Rattle.prl_plan.specs.Vocabulary.{Word, plan_of, IsFirstReader, PlanView, IsPlan, edge_at, no_edge}
use Rattle.prl_plan.proofs.WordNumbers.{first_after_prefix}
use Rattle.prl_plan.proofs.plans.Plan.constants_on.Goals as goal

first_of : (plan : PlanView) → IsPlan plan → (e : ℕ) → e < length plan.graph.edges → (w : Word) → slice_get plan.words e ≡ Some w → IsFirstReader (edge_at plan.graph e).ops (length w.prefix)
first_of plan is e inside w at =
    let each = is.words.each e (edge_at plan.graph e) (slice_get-get_or plan.graph.edges e no_edge inside) in
    let same : each.0 ≡ w = same_Some each.0 w (sym each.1 ∙ at) in
    subst (λ (x : Word). IsFirstReader (edge_at plan.graph e).ops (length x.prefix)) same (first_after_prefix (edge_at plan.graph e).ops each.0 each.2)

pub returns-clause-count : goal.returns-clause-count
returns-clause-count c =
    let inside : c.args.e.0 < length c.self.inside.graph.edges = subst (λ (p : PlanView). c.args.e.0 < length p.graph.edges) (sym c.self.view_is) c.requires in
    let long : length c.as_slice.result.now ≡ length c.self.inside.words.of = ap length c.as_slice.ensures in
    let at : slice_get c.self.inside.words.of c.args.e.0 ≡ Some c.index-as_slice-e.result =
    subst (λ (l : List Word). slice_get l c.args.e.0 ≡ Some c.index-as_slice-e.result) c.as_slice.ensures
    (slice_get-get_or c.as_slice.result.now c.args.e.0 c.index-as_slice-e.result (omega (arith, inside, long, c.self.invariant.words.long)) ∙ ap (λ (w : Word). Some w) (sym c.index-as_slice-e.is)) in
    let first = first_of (plan_of c.self.inside.graph c.self.inside.words.of c.self.inside.dates c.self.inside.cells) c.self.invariant c.args.e.0 inside c.index-as_slice-e.result at in
    let there = subst (λ (p : PlanView). IsFirstReader (edge_at p.graph c.args.e.0).ops (length c.index-as_slice-e.result.prefix)) c.self.view_is first in
    subst (λ (n : ℕ). IsFirstReader (edge_at c.args.self.now.graph c.args.e.0).ops n) (ap (λ (w : Word). length w.prefix) c.index-as_slice-e.is ∙ sym c.len.ensures) there
