-- What comes of the text of a program alone, on the way to its plan.
use Rattle.std.specs.Prelude.{ℕ, List, Option, Ok}
use Rattle.prl_base.specs.declared.operators.Clock.{Clock}
use Rattle.prl_base.specs.declared.values.Ty.{Ty}
use Rattle.prl_ast.specs.Trees.{ProgramTree}
use Rattle.prl_syntax.specs.Parsing.{IsParsed}
use Rattle.prl_types.specs.Typing.{IsTyped}
use Rattle.prl_expand.specs.Expanding.{IsExpanded}
use Rattle.prl_flow.specs.Programs.{FlatProgram}
use Rattle.prl_clock.specs.Outcomes.{AreOnlyClocks}
use Rattle.prl_graph.specs.TaskGraphs.{IsGraphOf}
use Rattle.prl_plan.specs.declared.graphs.TaskGraph.{TaskGraph}

-- the flat program of a program, where main is the node of this name, or the last one where none is given
pub record IsFlatOf (text : List ℕ) (node : Option (List ℕ)) (flat : FlatProgram) : Type 0 where
  pub program : ProgramTree
  pub main : ℕ
  pub types : List Ty
  pub parsed : IsParsed text (Ok program)
  pub typed : IsTyped program node main types
  pub expanded : IsExpanded program main types flat

-- the task graph of a program
pub record IsGraphIn (text : List ℕ) (node : Option (List ℕ)) (graph : TaskGraph) : Type 0 where
  pub flat : FlatProgram
  pub clocks : List Clock
  pub is_flat : IsFlatOf text node flat
  pub only : AreOnlyClocks flat clocks
  pub is_graph : IsGraphOf flat clocks graph
