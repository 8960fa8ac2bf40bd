-- One step of a way back.
use Rattle.std.specs.Prelude.{◌≡◌, ◌<◌, ℕ, length, Some, slice_get}
use Rattle.prl_flow.specs.declared.programs.Def.{Def}
use Rattle.prl_flow.specs.declared.programs.Def.TheVariants as definitions
use Rattle.prl_flow.specs.declared.programs.Flow.{Flow}
use Rattle.prl_flow.specs.Programs.{FlatProgram}
use Rattle.prl_graph.specs.declared.edges.Back.{Back}
use Rattle.prl_graph.specs.declared.edges.Back.TheVariants as backs
use Rattle.prl_graph.specs.code.Steps.{HasProducer}

-- flow `i` is defined so
pub record IsDefined (p : FlatProgram) (i : ℕ) (def : Def) : Type 0 where
  pub flow : Flow
  pub found : slice_get p.flows i ≡ Some flow
  pub is : flow.def ≡ def

-- the step back from flow `i`
abbrev pub IsStepBack : FlatProgram → ℕ → Back → Type 0
IsStepBack p i (backs.Copy of) = IsDefined p i (definitions.Copy of) × (of.0 < length p.flows)
IsStepBack p i (backs.Operator op of) = IsDefined p i (definitions.Op op of) × (of.0 < length p.flows)
IsStepBack p i backs.End = HasProducer p i
