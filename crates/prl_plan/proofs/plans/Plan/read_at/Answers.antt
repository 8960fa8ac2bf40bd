use Rattle.std.proofs.Common.{rules, ◌≡◌, ◌<◌, ◌^◌, ℕ, length, refl, subst, sym, arith}
use Rattle.prl_plan.specs.Vocabulary.{Operand, operand_of, PlanView, IsPlan, edge_at, release_at, IsSmallOperand}
use Rattle.prl_plan.specs.declared.walks.Operand.TheVariants as operands
use Rattle.prl_plan.proofs.PlanNumbers.{operand_within}
use Rattle.prl_plan.proofs.ActionLists.{read_passed, read_other}
use Rattle.prl_plan.proofs.plans.Plan.read_at.Goals.{then-leads_to+in-Err, else-leads_to}
use Rattle.prl_plan.proofs.plans.Plan.read_at.Goals as goal

small_operand : (plan : PlanView) → IsPlan plan → (e n i : ℕ) → e < length plan.graph.edges → (edge_at plan.graph e).to.0 ≡ i → release_at plan i n < 2 ^ 63 →
    (o : Operand) → operand_of (edge_at plan.graph e) n ≡ o → IsSmallOperand o
small_operand plan is e n i inside to small (operands.Const c) at = tt
small_operand plan is e n i inside to small (operands.From m) at =
    omega (arith, operand_within plan is e n m inside at, subst (λ (k : ℕ). release_at plan k n < 2 ^ 63) (sym to) small)

pub read_on-requires-clause-small : goal.read_on-requires-clause-small
read_on-requires-clause-small c =
    let inside : c.loop-e.e < length c.args.self.now.graph.edges = search rules in
    small_operand c.args.self.now c.graph.ensures.plan c.loop-e.e c.args.n c.args.i.0 inside c.if-leads_to.ensures.yes c.requires.small
    (operand_of (edge_at c.args.self.now.graph c.loop-e.e) c.args.n) refl

pub loop-e-preserved : goal.loop-e-preserved
loop-e-preserved c = elim c.if-leads_to.branch [
  | then-leads_to+in-Err w ↦ rw w.left-is
      (read_passed c.args.self.now c.args.i.0 c.args.n c.loop-e.e (search rules) c.args.place c.loop-e.left w.in-Err.rest w.if-leads_to.ensures.yes c.loop-e.invariant w.in-Err.ensures)
  | else-leads_to w ↦ rw w.left-is (read_other c.args.self.now c.args.i.0 c.args.n c.loop-e.e (search rules) c.args.place c.loop-e.left w.if-leads_to.ensures.no c.loop-e.invariant)
]
