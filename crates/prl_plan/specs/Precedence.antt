-- Periodic precedence: which job of a producer comes before which job of a consumer, over all whole numbers.
use Rattle.std.specs.Prelude.{◌≡◌, ℕ, ℤ, List, [], ◌∷◌, Some, slice_get}
use Rattle.prl_base.specs.Operators.{preceding_number}
use Rattle.prl_base.specs.declared.operators.Op.{Op}
use Rattle.prl_plan.specs.declared.graphs.Edge.{Edge}
use Rattle.prl_plan.specs.declared.graphs.TaskGraph.{TaskGraph}
use Rattle.prl_plan.specs.declared.graphs.Producer.{Producer}
use Rattle.prl_plan.specs.declared.graphs.Producer.TheVariants as producers
use Rattle.prl_plan.specs.Jobs.{Job}

-- the number of the producer's job that precedes job n of the consumer, by the operators from the consumer's end on
abbrev pub preceding : List Op → ℤ → ℤ
preceding [] n = n
preceding (op ∷ ops) n = preceding ops (preceding_number op n)

-- the edge comes from an output of task i
abbrev pub ComesFrom : Producer → ℕ → Type 0
ComesFrom (producers.Port task out) i = task.0 ≡ i
ComesFrom (producers.Constant value) i = ⊥

-- along edge `edge` of the graph, the one job precedes the other
pub record PrecedesAlong (graph : TaskGraph) (edge : Edge) (before after : Job) : Type 0 where
  pub from : ComesFrom edge.from before.task
  pub to : edge.to.0 ≡ after.task
  pub number : before.number ≡ preceding edge.ops after.number

-- the one job precedes the other along some edge of the graph
abbrev pub Precedes : TaskGraph → Job → Job → Type 0
Precedes graph before after = (e : ℕ) × (edge : Edge) × (slice_get graph.edges e ≡ Some edge) × PrecedesAlong graph edge before after
