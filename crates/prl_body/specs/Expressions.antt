-- Expressions of bodies, with their names resolved.
use Rattle.std.specs.Prelude.{ℕ}
use Rattle.prl_base.specs.declared.values.Value.{Value}
use Rattle.prl_body.specs.declared.codes.Variable.{Variable}
use Rattle.prl_base.specs.declared.body_operators.Operator.{Operator}
use Rattle.prl_base.specs.declared.body_operators.Prefix.{Prefix}

mutual
  pub data Expression : Type 0 where
    constant : Value → Expression
    name : Variable → Expression
    -- the same operator before the operand so many times
    run : Prefix → ℕ → Expression → Expression
    -- the first operand, and the others with the operator before each
    series : Expression → Rights → Expression
    -- if(c, a, b)
    choice : Expression → Expression → Expression → Expression

  pub data Rights : Type 0 where
    none : Rights
    more : Operator → Expression → Rights → Rights
