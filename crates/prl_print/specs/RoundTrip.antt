-- What is read from a printed text.
use Rattle.std.specs.Prelude.{ℕ, List, Ok}
use Rattle.prl_ast.specs.Trees.{ProgramTree}
use Rattle.prl_syntax.specs.Parsing.{IsParsed}
use Rattle.prl_print.specs.Places.{SamePlacesAside}

-- The text is a program, and this program is the given one, places aside.
pub record IsTextOf (text : List ℕ) (p : ProgramTree) : Type 0 where
  pub tree : ProgramTree
  pub is : IsParsed text (Ok tree)
  pub same : SamePlacesAside tree p
