-- What the checked bodies of a program have of its imports.
use Rattle.std.specs.Prelude.{◌≡◌, ℕ, List, Some, slice_get}
use Rattle.prl_ast.specs.declared.declarations.Import.{Import}
use Rattle.prl_body.specs.declared.bodies.CheckedBody.{CheckedBody}
use Rattle.prl_body.specs.Bodies.{body_named}
use Rattle.prl_body.specs.Checks.{import_named}

-- there is a body of this name, and it has exactly the ports of the import of this name
pub record HasBodyOf (imports : List Import) (bodies : List CheckedBody) (name : List ℕ) : Type 0 where
  pub body : CheckedBody
  pub of : Import
  pub named : body_named bodies name ≡ Some body
  pub declared : import_named imports name ≡ Some of
  pub ins : body.ins ≡ of.ins
  pub outs : body.outs ≡ of.outs

-- each of these names has such a body
abbrev pub HaveBodiesOf : List Import → List (List ℕ) → List CheckedBody → Type 0
HaveBodiesOf imports used bodies = (k : ℕ) (name : List ℕ) → slice_get used k ≡ Some name → HasBodyOf imports bodies name
