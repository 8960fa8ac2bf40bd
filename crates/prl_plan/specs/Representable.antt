-- Graphs whose numbers the types of graphs can hold; all others are kept small by being well formed.
use Rattle.std.specs.Prelude.{◌≡◌, ◌<◌, ◌^◌, ℕ, Some, slice_get}
use Rattle.prl_base.specs.Ratios.{IsSmallFraction}
use Rattle.prl_base.specs.declared.operators.Op.{Op}
use Rattle.prl_base.specs.declared.operators.Op.TheVariants as operators
use Rattle.prl_plan.specs.declared.graphs.Edge.{Edge}
use Rattle.prl_plan.specs.declared.graphs.Producer.{Producer}
use Rattle.prl_plan.specs.declared.graphs.Producer.TheVariants as producers
use Rattle.prl_plan.specs.declared.graphs.TaskGraph.{TaskGraph}

-- an output has a number of 32 bits
abbrev pub HasSmallOutput : Producer → Type 0
HasSmallOutput (producers.Port task out) = out < 2 ^ 32
HasSmallOutput (producers.Constant value) = Unit {0}

-- a shift is a reduced ratio of small parts
abbrev pub HasSmallShift : Op → Type 0
HasSmallShift (operators.Fby c) = Unit {0}
HasSmallShift (operators.Cons c) = Unit {0}
HasSmallShift operators.Tail = Unit {0}
HasSmallShift (operators.Up k) = Unit {0}
HasSmallShift (operators.Down k) = Unit {0}
HasSmallShift (operators.Shift q) = IsSmallFraction q

pub record IsRepresentable (graph : TaskGraph) : Type 0 where
  pub outputs : (e : ℕ) (edge : Edge) → slice_get graph.edges e ≡ Some edge → HasSmallOutput edge.from
  pub shifts : (e k : ℕ) (edge : Edge) (op : Op) → slice_get graph.edges e ≡ Some edge → slice_get edge.ops k ≡ Some op → HasSmallShift op
