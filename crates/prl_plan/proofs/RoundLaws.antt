-- The task that an edge comes from.
use Rattle.std.proofs.Common.{◌≡◌, ◌<◌, ℕ, length, subst}
use Rattle.prl_plan.specs.Vocabulary.{Edge, Producer, TaskGraph, ComesFrom, IsEdge, IsSource}
use Rattle.prl_plan.specs.declared.graphs.Producer.TheVariants as producers

-- a task that an edge comes from is one of the graph
pub source_inside : (graph : TaskGraph) (edge : Edge) → IsEdge graph edge → (from : Producer) → edge.from ≡ from → (i : ℕ) → ComesFrom from i → i < length graph.tasks
source_inside graph edge is (producers.Constant value) from i comes = absurd comes
source_inside graph edge is (producers.Port task out) from i comes =
    subst (λ (x : ℕ). x < length graph.tasks) comes (subst (λ (p : Producer). IsSource graph edge is.clocks.0 p) from is.clocks.2).0
