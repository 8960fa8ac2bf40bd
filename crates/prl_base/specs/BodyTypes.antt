-- The types of operators.
use Rattle.std.specs.Prelude.{◌&&◌, Bool, true, false, Option, Some, None}
use Rattle.prl_base.specs.declared.values.Ty.{Ty}
use Rattle.prl_base.specs.declared.values.Ty.TheVariants as types
use Rattle.prl_base.specs.declared.body_operators.Operator.{Operator}
use Rattle.prl_base.specs.declared.body_operators.Operator.TheVariants as operators
use Rattle.prl_base.specs.declared.body_operators.Prefix.{Prefix}
use Rattle.prl_base.specs.declared.body_operators.Prefix.TheVariants as prefixes

-- the type of the operands, where only one is allowed; `=` and `<>` take two of any one type
abbrev pub operand_type : Operator → Option Ty
operand_type operators.Or = Some types.Bool
operand_type operators.Xor = Some types.Bool
operand_type operators.And = Some types.Bool
operand_type operators.Equal = None
operand_type operators.Unequal = None
operand_type operators.Less = Some types.Int
operand_type operators.AtMost = Some types.Int
operand_type operators.Greater = Some types.Int
operand_type operators.AtLeast = Some types.Int
operand_type operators.Plus = Some types.Int
operand_type operators.Minus = Some types.Int
operand_type operators.Times = Some types.Int
operand_type operators.Over = Some types.Int
operand_type operators.Modulo = Some types.Int

abbrev pub result_type : Operator → Ty
result_type operators.Or = types.Bool
result_type operators.Xor = types.Bool
result_type operators.And = types.Bool
result_type operators.Equal = types.Bool
result_type operators.Unequal = types.Bool
result_type operators.Less = types.Bool
result_type operators.AtMost = types.Bool
result_type operators.Greater = types.Bool
result_type operators.AtLeast = types.Bool
result_type operators.Plus = types.Int
result_type operators.Minus = types.Int
result_type operators.Times = types.Int
result_type operators.Over = types.Int
result_type operators.Modulo = types.Int

-- of the operand and of the result
abbrev pub prefix_type : Prefix → Ty
prefix_type prefixes.Not = types.Bool
prefix_type prefixes.Negated = types.Int

abbrev pub is_same_type : Ty → Ty → Bool
is_same_type types.Int types.Int = true
is_same_type types.Int types.Bool = false
is_same_type types.Bool types.Int = false
is_same_type types.Bool types.Bool = true

-- whether operands of these types fit the operator
abbrev pub are_allowed : Option Ty → Ty → Ty → Bool
are_allowed None left right = is_same_type left right
are_allowed (Some t) left right = is_same_type left t && is_same_type right t
