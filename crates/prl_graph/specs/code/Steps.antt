-- A way back, step by step.
use Rattle.std.specs.Prelude.{◌≡◌, ◌+◌, ◌<◌, ◌++◌, ℕ, List, [], ◌∷◌, Some, slice_get}
use Rattle.prl_base.specs.declared.numbers.FlowNo.{FlowNo}
use Rattle.prl_base.specs.declared.operators.Clock.{Clock}
use Rattle.prl_base.specs.declared.operators.Op.{Op}
use Rattle.prl_flow.specs.declared.programs.App.{App}
use Rattle.prl_flow.specs.declared.programs.Arg.{Arg}
use Rattle.prl_flow.specs.declared.programs.Def.TheVariants as definitions
use Rattle.prl_flow.specs.declared.programs.Flow.{Flow}
use Rattle.prl_flow.specs.Programs.{FlatProgram}
use Rattle.prl_plan.specs.declared.graphs.Edge.{Edge}
use Rattle.prl_plan.specs.declared.graphs.Producer.{Producer}
use Rattle.prl_graph.specs.Edges.{AreEdgesOf, IsProducer, LeadsBack}
use Rattle.prl_graph.specs.Ports.{InputPort}

-- so many steps back, each over a copy or an operator, lead from the one flow to the other
pub data StepsBack (p : FlatProgram) : ℕ → ℕ → List Op → ℕ → Type 0 where
  none : (i : ℕ) → StepsBack p 0 i [] i
  copy : (n i j : ℕ) (ops : List Op) (flow : Flow) (of : FlowNo) → slice_get p.flows i ≡ Some flow → flow.def ≡ definitions.Copy of
      → StepsBack p n of.0 ops j → StepsBack p (n + 1) i ops j
  operator : (n i j : ℕ) (ops : List Op) (flow : Flow) (op : Op) (of : FlowNo) → slice_get p.flows i ≡ Some flow → flow.def ≡ definitions.Op op of
      → StepsBack p n of.0 ops j → StepsBack p (n + 1) i (op ∷ ops) j

-- this is what gives the values of flow `i`
pub record GivesValues (p : FlatProgram) (i : ℕ) (from : Producer) : Type 0 where
  pub flow : Flow
  pub found : slice_get p.flows i ≡ Some flow
  pub produces : IsProducer p flow.def from

-- flow `i` is made of no other flow
abbrev pub HasProducer : FlatProgram → ℕ → Type 0
HasProducer p i = (from : Producer) × GivesValues p i from

-- the way back from flow `i` ends at flow `source`, which is made of no other
pub record EndsAt (p : FlatProgram) (i : ℕ) (ops : List Op) (source : ℕ) : Type 0 where
  pub leads : LeadsBack p i ops source
  pub produced : HasProducer p source

-- each argument is one of the first `n` flows
abbrev pub AreWithin : List Arg → ℕ → Type 0
AreWithin args n = (j : ℕ) (arg : Arg) → slice_get args j ≡ Some arg → arg.flow.0 < n

-- the edges into these ports come to what edges there are
abbrev pub AddsEdges : FlatProgram → List Clock → List InputPort → List Edge → List Edge → Type 0
AddsEdges p clocks ports old new = (before : List InputPort) → AreEdgesOf p clocks before old → AreEdgesOf p clocks (before ++ ports) new

-- these are the arguments of application `k`
pub record AreArgumentsOf (p : FlatProgram) (k : ℕ) (args : List Arg) : Type 0 where
  pub app : App
  pub found : slice_get p.apps k ≡ Some app
  pub are : app.args ≡ args
