-- The first jobs are horizon jobs, and what they read is small.
use Rattle.prl_base.proofs.Standard.{◌≡◌, ◌<◌, ◌≤◌, ◌^◌, ℕ, refl, arith}
use Rattle.prl_plan.specs.Vocabulary.{operand_of, PlanView, IsSmallOperand, edge_at}
use Rattle.prl_plan.specs.declared.walks.Operand.{Operand}
use Rattle.prl_plan.specs.declared.walks.Operand.TheVariants as operands

pub small_read : (plan : PlanView) (e n date : ℕ) → ((m : ℕ) → operand_of (edge_at plan.graph e) n ≡ operands.From m → m ≤ date) → date < 2 ^ 33 →
    IsSmallOperand (operand_of (edge_at plan.graph e) n)
small_read plan e n date within small = go (operand_of (edge_at plan.graph e) n) within
  where
    go : (o : Operand) → ((m : ℕ) → o ≡ operands.From m → m ≤ date) → IsSmallOperand o
    go (operands.Const c) within = tt
    go (operands.From m) within = (let w = within m refl in omega (arith, w, small))
