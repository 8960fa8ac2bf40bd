-- The operand of a job on an edge.
use Rattle.std.specs.Prelude.{ℕ, List, [], ◌∷◌}
use Rattle.prl_base.specs.Operators.{Origin, instance, constant, origin_of}
use Rattle.prl_base.specs.declared.operators.Op.{Op}
use Rattle.prl_plan.specs.declared.graphs.Edge.{Edge}
use Rattle.prl_plan.specs.declared.graphs.Producer.{Producer}
use Rattle.prl_plan.specs.declared.graphs.Producer.TheVariants as producers
use Rattle.prl_plan.specs.declared.walks.Operand.{Operand}
use Rattle.prl_plan.specs.declared.walks.Operand.TheVariants as operands

-- what comes from an instance of a flow, or from an operator's constant
abbrev pub operand_at : (ℕ → Operand) → Origin → Operand
operand_at flow (instance m) = flow m
operand_at flow (constant c) = operands.Const c

-- What instance n is, seen through the operators, which stand from the consumer's end on: an instance of the
-- producer's flow, or a constant that an operator gives.
abbrev pub walk : List Op → ℕ → Operand
walk [] n = operands.From n
walk (op ∷ ops) n = operand_at (walk ops) (origin_of op n)

-- an instance of a constant is that constant
abbrev pub operand_from : Producer → Operand → Operand
operand_from (producers.Port task out) operand = operand
operand_from (producers.Constant value) (operands.Const c) = operands.Const c
operand_from (producers.Constant value) (operands.From m) = operands.Const value

-- what job n of the consumer reads on the edge
abbrev pub operand_of : Edge → ℕ → Operand
operand_of edge n = operand_from edge.from (walk edge.ops n)
