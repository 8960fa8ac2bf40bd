-- A program with the types of its parameters.
use Rattle.std.specs.Prelude.{ℕ, List}
use Rattle.prl_base.specs.declared.values.Ty.{Ty}
use Rattle.prl_ast.specs.declared.declarations.Program.{Program}

-- a program with its main node and the types of its parameters, in the order of their declaration
pub record Typing : Type 0 where
  pub program : Program
  pub main : ℕ
  pub types : List Ty
