use Rattle.std.proofs.Common.{◌≡◌, ◌<◌, ◌≤◌, ◌^◌, ℕ, length, refl, subst, arith}
use Rattle.prl_plan.specs.Vocabulary.{operand_of, IsPlan, IsSmallOperand, PlanView, edge_at, release_at}
use Rattle.prl_plan.specs.declared.graphs.Edge.{Edge}
use Rattle.prl_plan.specs.declared.walks.Operand.{Operand}
use Rattle.prl_plan.specs.declared.walks.Operand.TheVariants as operands
use Rattle.prl_shapes.proofs.look_ups.operand_of.Goals as goal

-- by the law on what jobs read
small_operand : (plan : PlanView) (e n : ℕ) → e < length plan.graph.edges → IsPlan plan → release_at plan (edge_at plan.graph e).to.0 n < 2 ^ 33
    → ((plan : PlanView) → IsPlan plan → (e n m : ℕ) → e < length plan.graph.edges → operand_of (edge_at plan.graph e) n ≡ operands.From m
    → m ≤ release_at plan (edge_at plan.graph e).to.0 n)
    → (o : Operand) → operand_of (edge_at plan.graph e) n ≡ o → IsSmallOperand o
small_operand plan e n inside is small fit (operands.Const c) at = tt
small_operand plan e n inside is small fit (operands.From m) at = (let low = fit plan is e n m inside at in omega (arith, low, small))

pub operand-requires-clause-small : goal.operand-requires-clause-small
operand-requires-clause-small c =
    let plan = c.args.plan.now in
    let release = subst (λ (tick : ℕ). tick < 2 ^ 33) c.dates_of-dates.ensures.release c.dates_of-dates.ensures.early in
    let small = subst (λ (edge : Edge). release_at plan edge.to.0 c.args.n < 2 ^ 33) c.edge_of-edge.ensures.edge release in
    small_operand plan c.args.e.0 c.args.n c.requires.edge c.plan_is_one.ensures small c.look_ups_fit.ensures.operand
    (operand_of (edge_at plan.graph c.args.e.0) c.args.n) refl
