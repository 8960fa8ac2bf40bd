-- Expressions with resolved names, as definitions see them.
use Rattle.std.specs.Prelude.{List, [], ◌∷◌}
use Rattle.prl_body.specs.declared.codes.Code.{Code, Const, Name, Run', Series', If', Row_of-OperatorAndRight, end_of-OperatorAndRight, more_of-OperatorAndRight}
use Rattle.prl_body.specs.declared.codes.OperatorAndRight.{OperatorAndRight}
use Rattle.prl_body.specs.Expressions.{Expression, constant, name, run, series, choice, Rights, none, more}

abbrev mutual
  pub expression_of : Code → Expression
  expression_of (Const value) = constant value
  expression_of (Name variable) = name variable
  expression_of (Run' prefix times p of) = run prefix times (expression_of of)
  expression_of (Series' p first shape rights) = series (expression_of first) (rights_of rights)
  expression_of (If' p test q chosen r other) = choice (expression_of test) (expression_of chosen) (expression_of other)

  pub rights_of : {m : _} → Row_of-OperatorAndRight m → Rights
  rights_of end_of-OperatorAndRight = none
  rights_of (more_of-OperatorAndRight operator right rest) = more operator (expression_of right) (rights_of rest)

-- of a list of operators with their right operands
abbrev pub pair_expressions : List OperatorAndRight → Rights
pair_expressions [] = none
pair_expressions (pair ∷ rights) = more pair.operator (expression_of pair.right) (pair_expressions rights)
