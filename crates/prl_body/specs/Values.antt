-- The value of an expression.
use Rattle.std.specs.Prelude.{ℕ, zero, suc, pos, List, slice_index_or, if◌then◌else◌}
use Rattle.prl_base.specs.declared.values.Value.{Value}
use Rattle.prl_base.specs.declared.values.Value.TheVariants as values
use Rattle.prl_body.specs.declared.codes.Variable.{Variable}
use Rattle.prl_body.specs.declared.codes.Variable.TheVariants as variables
use Rattle.prl_base.specs.declared.body_operators.Prefix.{Prefix}
use Rattle.prl_body.specs.Expressions.{Expression, constant, name, run, series, choice, Rights, none, more}
use Rattle.prl_base.specs.BodyOperators.{truth_of, prefixed, result_of}

-- an input or a register that is not there, which no checked body names, counts as 0
abbrev pub variable_value : List Value → List Value → Variable → Value
variable_value inputs registers (variables.Input k) = slice_index_or inputs k (values.Int (pos 0))
variable_value inputs registers (variables.Register k) = slice_index_or registers k (values.Int (pos 0))

abbrev pub prefixed_times : Prefix → ℕ → Value → Value
prefixed_times prefix zero v = v
prefixed_times prefix (suc n) v = prefixed prefix (prefixed_times prefix n v)

abbrev mutual
  -- for these inputs and registers
  pub value : List Value → List Value → Expression → Value
  value inputs registers (constant v) = v
  value inputs registers (name variable) = variable_value inputs registers variable
  value inputs registers (run prefix times of) = prefixed_times prefix times (value inputs registers of)
  value inputs registers (series first rights) = value_along inputs registers (value inputs registers first) rights
  value inputs registers (choice test chosen other) =
      if truth_of (value inputs registers test) then value inputs registers chosen else value inputs registers other

  -- from left to right
  pub value_along : List Value → List Value → Value → Rights → Value
  value_along inputs registers left none = left
  value_along inputs registers left (more operator right rights) =
      value_along inputs registers (result_of operator left (value inputs registers right)) rights
