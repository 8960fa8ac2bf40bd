-- Which flows of a flat program have clocks over one another, and what clocks these give.
use Rattle.std.specs.Prelude.{◌≡◌, ◌≤◌, ◌*◌, ◌*ℤ◌, ◌+ℤ◌, ℕ, pos, List, Some, slice_get}
use Rattle.prl_base.specs.Ratios.{Fraction}
use Rattle.prl_base.specs.Reductions.{IsReducedForm}
use Rattle.prl_ast.specs.declared.declarations.Rate.{Rate}
use Rattle.prl_clock.specs.Constraints.{first_output, timing_of_operator}
use Rattle.prl_flow.specs.Standings.{over_one, same_clock}
use Rattle.prl_flow.specs.declared.standings.Timing.{Timing}
use Rattle.prl_flow.specs.declared.programs.App.{App}
use Rattle.prl_flow.specs.declared.programs.Arg.{Arg}
use Rattle.prl_flow.specs.declared.programs.Def.{Def}
use Rattle.prl_flow.specs.declared.programs.Def.TheVariants as definitions
use Rattle.prl_flow.specs.declared.programs.Flow.{Flow}
use Rattle.prl_flow.specs.Programs.{FlatProgram}
use Rattle.prl_flow.specs.Uses.{IsArgument}

-- the clock that a rate declares, in lowest terms
pub record IsRateTiming (rate : Rate) (timing : Timing) : Type 0 where
  pub period : timing.period ≡ over_one rate.period
  pub start : IsReducedForm (pos rate.period *ℤ rate.phase.num) (pos (1 * rate.phase.den)) timing.start

-- the clock of what is `link` over a flow of this clock, in lowest terms
pub record IsOver (link timing result : Timing) : Type 0 where
  pub period : IsReducedForm (link.period.num *ℤ timing.period.num) (pos (link.period.den * timing.period.den)) result.period
  pub shift : Fraction
  pub shifted : IsReducedForm (link.start.num *ℤ timing.period.num) (pos (link.start.den * timing.period.den)) shift
  pub start : IsReducedForm (timing.start.num *ℤ pos shift.den +ℤ shift.num *ℤ pos timing.start.den) (pos (timing.start.den * shift.den)) result.start

-- an argument stands at this byte
pub record HasAt (args : List Arg) (at : ℕ) : Type 0 where
  pub index : ℕ
  pub arg : Arg
  pub found : slice_get args index ≡ Some arg
  pub is : arg.at.at ≡ at

-- flow `j` is the first output of the application of this number
pub record IsFirstOutput (p : FlatProgram) (k j : ℕ) : Type 0 where
  pub app : App
  pub applied : slice_get p.apps k ≡ Some app
  pub is : first_output app ≡ j

-- an output of an application has the clock of flow `j`: the first that of each argument, a later one that of the first
pub data IsApplied (p : FlatProgram) (k out j : ℕ) : Type 0 where
  argument : out ≡ 0 → IsArgument p k j → IsApplied p k out j
  output : 1 ≤ out → IsFirstOutput p k j → IsApplied p k out j

-- by its definition a flow is so over flow `j`
abbrev pub IsLink : FlatProgram → Def → ℕ → Timing → Type 0
IsLink p (definitions.Sensor k) j link = ⊥
IsLink p (definitions.Copy of) j link = (of.0 ≡ j) × (link ≡ same_clock)
IsLink p (definitions.Const v) j link = ⊥
IsLink p (definitions.Apply k out) j link = IsApplied p k out j × (link ≡ same_clock)
IsLink p (definitions.Op op of) j link = (of.0 ≡ j) × (link ≡ timing_of_operator op)

-- flow `i` is so over flow `j`
pub record HasLink (p : FlatProgram) (i j : ℕ) (link : Timing) : Type 0 where
  pub flow : Flow
  pub found : slice_get p.flows i ≡ Some flow
  pub is : IsLink p flow.def j link
