-- What comes of a program, from its parts.
use Rattle.std.proofs.Common.{ℕ, List, Option, Ok}
use Rattle.prl_base.specs.declared.operators.Clock.{Clock}
use Rattle.prl_base.specs.declared.values.Ty.{Ty}
use Rattle.prl_ast.specs.Trees.{ProgramTree}
use Rattle.prl_syntax.specs.Parsing.{IsParsed}
use Rattle.prl_types.specs.Typing.{IsTyped}
use Rattle.prl_expand.specs.Expanding.{IsExpanded}
use Rattle.prl_flow.specs.Programs.{FlatProgram}
use Rattle.prl_clock.specs.Outcomes.{AreOnlyClocks}
use Rattle.prl_graph.specs.TaskGraphs.{AreSmallClocks, IsGraphOf}
use Rattle.prl_plan.specs.declared.graphs.TaskGraph.{TaskGraph}
use Rattle.prl_stages.proofs.SmallClocks.{small_clocks}
use Rattle.prl_waytext.specs.ProgramTexts.{IsFlatOf, IsGraphIn}

pub small : (flat : FlatProgram) (clocks : List Clock) → AreOnlyClocks flat clocks → AreSmallClocks clocks
small flat clocks only = small_clocks flat clocks only

pub flat_is : (text : List ℕ) (asked : Option (List ℕ)) (p : ProgramTree) (main : ℕ) (types : List Ty) (flat : FlatProgram) → IsParsed text (Ok p)
    → IsTyped p asked main types → IsExpanded p main types flat → IsFlatOf text asked flat
flat_is text asked p main types flat parsed typed expanded = record {
  program = p;
  main = main;
  types = types;
  parsed = parsed;
  typed = typed;
  expanded = expanded;
}

pub graph_is : (text : List ℕ) (asked : Option (List ℕ)) (flat : FlatProgram) (clocks : List Clock) (graph : TaskGraph) → IsFlatOf text asked flat
    → AreOnlyClocks flat clocks → IsGraphOf flat clocks graph → IsGraphIn text asked graph
graph_is text asked flat clocks graph is_flat only is_graph = record {
  flat = flat;
  clocks = clocks;
  is_flat = is_flat;
  only = only;
  is_graph = is_graph;
}
