-- The imports of a program and the bodies of a text, and their names.
use Rattle.std.specs.Prelude.{ℕ, List, map}
use Rattle.prl_ast.specs.declared.declarations.Import.{Import}
use Rattle.prl_body.specs.declared.texts.BodyText.{BodyText}

pub record DirectoryView : Type 0 where
  pub imports : List Import
  pub texts : List BodyText

abbrev pub text_names : List BodyText → List (List ℕ)
text_names texts = map (λ (t : BodyText). t.name) texts
