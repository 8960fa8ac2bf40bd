-- Edges between jobs.
use Rattle.prl_plan.specs.Vocabulary.{Job, Precedes}
use Rattle.prl_plan.specs.declared.graphs.TaskGraph.{TaskGraph}
use Rattle.prl_ways.specs.Chains.{HasEdge}

-- what precedes along an edge precedes
pub precedes_by : (graph : TaskGraph) (before after : Job) → HasEdge graph before after → Precedes graph before after
precedes_by graph before after has = (has.index, has.edge, has.found, has.along)
