-- The flat program of a program, that it has no cycle, and its clocks; and why there are none.
use Rattle.std.specs.Prelude.{◌≡◌, ℕ, List, Err}
use Rattle.prl_base.specs.declared.limits.Limit.{Limit}
use Rattle.prl_base.specs.declared.operators.Clock.{Clock}
use Rattle.prl_ast.specs.Trees.{ProgramTree}
use Rattle.prl_flow.specs.Programs.{FlatProgram}
use Rattle.prl_flow.specs.Uses.{HasNoCycle, IsCycleLabel}
use Rattle.prl_expand.specs.Expanding.{IsExpanded, IsExpandFault}
use Rattle.prl_expand.specs.declared.counts.ExpandFault.TheVariants as expanding
use Rattle.prl_clock.specs.Outcomes.{AreOnlyClocks, IsOutcome}
use Rattle.prl_clock.specs.declared.calculus.ClockFault.{ClockFault}
use Rattle.prl_clock.specs.declared.calculus.ClockFault.TheVariants as clock_faults
use Rattle.prl_stages.specs.declared.faults.ClocksRefusal.{ClocksRefusal}
use Rattle.prl_stages.specs.declared.faults.ClocksRefusal.TheVariants as bad_clocks
use Rattle.prl_stages.specs.declared.faults.Fault.{Fault}
use Rattle.prl_stages.specs.declared.faults.Fault.TheVariants as faults
use Rattle.prl_stages.specs.Given.{Given}
use Rattle.prl_stages.specs.Parts.{IsMain}

-- the flat program of the expansion of main, which has no more flows than may be
pub record IsFlattened (g : Given) (flat : FlatProgram) : Type 0 where
  pub program : ProgramTree
  pub main : ℕ
  pub is_main : IsMain g program main
  pub expanded : IsExpanded program main is_main.types flat

-- the expansion of main has more
abbrev pub RefusesExpansion : Given → Fault → Type 0
RefusesExpansion g fault =
    (p : ProgramTree) × (main : ℕ) × IsMain g p main × (limit : Limit)
    × IsExpandFault p main (expanding.Limit limit) × (fault ≡ faults.Limit limit)

-- each cycle of its flows has a delay and passes through an application
pub record IsCausal (g : Given) (flat : FlatProgram) : Type 0 where
  pub flattened : IsFlattened g flat
  pub acyclic : HasNoCycle flat

-- one has none or passes through none, and this is the label of a flow on it
abbrev pub RefusesCausality : Given → Fault → Type 0
RefusesCausality g fault =
    (flat : FlatProgram) × IsFlattened g flat × (label : List ℕ) × IsCycleLabel flat label × (fault ≡ faults.Cycle label)

-- the only clocks that rates and definitions leave to its flows
pub record HasClocks (g : Given) (flat : FlatProgram) (clocks : List Clock) : Type 0 where
  pub causal : IsCausal g flat
  pub only : AreOnlyClocks flat clocks

-- the fault of the clock calculus that is told as a refusal
abbrev pub clock_fault : ClocksRefusal → ClockFault
clock_fault (bad_clocks.Mismatch at) = clock_faults.Mismatch at
clock_fault (bad_clocks.Limit limit) = clock_faults.Limit limit
clock_fault (bad_clocks.Free label) = clock_faults.Free label
clock_fault (bad_clocks.NotWhole label period start) = clock_faults.NotWhole label period start

abbrev pub RefusesClocks : Given → Fault → Type 0
RefusesClocks g fault =
    (flat : FlatProgram) × IsCausal g flat × (refusal : ClocksRefusal)
    × IsOutcome flat (Err (clock_fault refusal)) × (fault ≡ faults.Clocks refusal)
