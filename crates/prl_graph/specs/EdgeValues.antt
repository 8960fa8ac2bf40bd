-- The value that a job reads on an edge, by the dates of the flows.
use Rattle.std.specs.Prelude.{ℕ, List, Option, Some}
use Rattle.prl_base.specs.Clocks.{date_at}
use Rattle.prl_base.specs.declared.operators.Clock.{Clock}
use Rattle.prl_base.specs.declared.values.Value.{Value}
use Rattle.prl_flow.specs.Flows.{value_at}
use Rattle.prl_flow.specs.Solutions.{clock_of, values_of}
use Rattle.prl_plan.specs.declared.walks.Operand.{Operand}
use Rattle.prl_plan.specs.declared.walks.Operand.TheVariants as operands

-- the value of flow `i` at the n-th date of its clock
abbrev pub value_on_date : List Clock → List (List Value) → ℕ → ℕ → Option Value
value_on_date clocks flows i n = value_at (clock_of clocks i) (values_of flows i) (date_at (clock_of clocks i) n)

-- the value of an operand: a constant, or what the flow `source` has at the date of the instance
abbrev pub value_of_operand : List Clock → List (List Value) → ℕ → Operand → Option Value
value_of_operand clocks flows source (operands.Const c) = Some c
value_of_operand clocks flows source (operands.From m) = value_on_date clocks flows source m
