-- What is evaluated, apart from the texts that it came from.
use Rattle.std.specs.Prelude.{◌≡◌, ℕ, List, map}
use Rattle.prl_ast.specs.Trees.{ProgramTree}
use Rattle.prl_base.specs.declared.values.Ty.{Ty}
use Rattle.prl_body.specs.Checks.{body_tree}
use Rattle.prl_types.specs.Typing.{IsTyped}
use Rattle.prl_stages.specs.Given.{Given}
use Rattle.prl_stages.specs.Parts.{AreBodies, IsMain}
use Rattle.prl_stages.specs.Runs.{HasRows}
use Rattle.prl_calls.specs.declared.rows.Run.{Run}

-- the rows of what is evaluated up to this date are those of the texts given
pub record HasRowsUntil (g : Given) (until : ℕ) (run : Run) : Type 0 where
  pub date : g.until ≡ until
  pub rows : HasRows g run.flat run.clocks.of run.sensors

-- what is evaluated up to this date, of node `k` of the program with these types, is what the texts given say
pub record IsEvaluated (g : Given) (until : ℕ) (p : ProgramTree) (k : ℕ) (tys : List Ty) (run : Run) : Type 0 where
  pub main : IsMain g p k
  pub typed : IsTyped p g.node k tys
  pub bodies : AreBodies g (map body_tree run.bodies)
  pub has : HasRowsUntil g until run
