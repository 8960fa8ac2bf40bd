-- What the stages find is one: the laws of the crates below that show it, as one record for the laws of this crate.
use Rattle.std.specs.Prelude.{◌≡◌, ◌≤◌, ℕ, ℤ, List, length, Option, Result}
use Rattle.prl_base.specs.declared.limits.Limit.{Limit}
use Rattle.prl_base.specs.declared.operators.Clock.{Clock}
use Rattle.prl_base.specs.declared.operators.Op.{Op}
use Rattle.prl_base.specs.declared.values.Ty.{Ty}
use Rattle.prl_ast.specs.InRange.{IsInRange}
use Rattle.prl_ast.specs.Trees.{ProgramTree}
use Rattle.prl_syntax.specs.declared.parsing.ParseFault.{ParseFault}
use Rattle.prl_syntax.specs.Parsing.{IsParsed as IsParsedProgram, IsProgramOf}
use Rattle.prl_types.specs.declared.faults.TypeFault.{TypeFault}
use Rattle.prl_types.specs.Typing.{IsTyped, IsOutcome}
use Rattle.prl_body.specs.declared.faults.BodyFault.{BodyFault}
use Rattle.prl_body.specs.Texts.{TextTree}
use Rattle.prl_bodytext.specs.Parsing.{IsParsed}
use Rattle.prl_causal.specs.Annotations.{flows_in}
use Rattle.prl_expand.specs.Expansions.{Expansion, IsExpansion}
use Rattle.prl_expand.specs.Flats.{flat_of}
use Rattle.prl_flow.specs.Programs.{FlatProgram, IsFlat}
use Rattle.prl_clock.specs.Outcomes.{IsOutcome as IsClockOutcome}
use Rattle.prl_clock.specs.declared.calculus.ClockFault.{ClockFault}
use Rattle.prl_graph.specs.declared.faults.GraphFault.{GraphFault}
use Rattle.prl_graph.specs.TaskGraphs.{IsGraphOf, IsGraphFault, IsOfProgram}
use Rattle.prl_plan.specs.declared.graphs.TaskGraph.{TaskGraph}
use Rattle.prl_plan.specs.declared.horizons.Horizon.{Horizon}
use Rattle.prl_plan.specs.declared.tables.Window.{Window}
use Rattle.prl_plan.specs.declared.words.Word.{Word}
use Rattle.prl_plan.specs.Chains.{IsBest}
use Rattle.prl_plan.specs.Dates.{AreEncodedDates}
use Rattle.prl_plan.specs.FirstReaders.{IsFirstReader}
use Rattle.prl_plan.specs.Graphs.{IsWellFormed}
use Rattle.prl_plan.specs.Horizons.{IsHorizon, IsPastLimit, Placement, constants_on}
use Rattle.prl_plan.specs.Jobs.{Job}
use Rattle.prl_plan.specs.Plans.{AreShortWindows, HaveRoom, IsPlan, PlanView}
use Rattle.prl_plan.specs.Spread.{IsSpread}
use Rattle.prl_plan.specs.Words.{IsWordOf}
use Rattle.prl_dates.specs.declared.faults.DateFault.{DateFault}
use Rattle.prl_dates.specs.Faults.{HasNarrowChain, HasNoNarrowChain, IsDateFault, IsOfGraph}
use Rattle.prl_core.specs.Cores.{CoreView}
use Rattle.prl_replay.specs.declared.faults.ReplayFault.{ReplayFault}
use Rattle.prl_replay.specs.Replays.{IsReplayFault, IsWholeText}

-- of texts, programs, expansions and clocks
pub record PartLaws : Type 0 where
  pub programs : (text : List ℕ) (a b : Result ProgramTree ParseFault) → IsParsedProgram text a → IsParsedProgram text b → a ≡ b
  pub bodies : (text : List ℕ) (a b : Result (List TextTree) BodyFault) → IsParsed text a → IsParsed text b → a ≡ b
  pub one : (p : ProgramTree) (main : Option (List ℕ)) (r s : Result (ℕ × List Ty) TypeFault) → IsOutcome p main r → IsOutcome p main s → r ≡ s
  pub ranges : (text : List ℕ) (p : ProgramTree) → IsProgramOf text p → IsInRange p
  pub expansions : (p : ProgramTree) (main : ℕ) (one other : Expansion) → IsExpansion p main one → IsExpansion p main other → one ≡ other
  pub formed : (p : ProgramTree) (asked : Option (List ℕ)) (main : ℕ) (types : List Ty) (e : Expansion) → IsInRange p → IsTyped p asked main types
      → IsExpansion p main e → length (flows_in e) ≤ 4096 → IsFlat (flat_of p types main e)
  pub clocks : (p : FlatProgram) → IsFlat p → (one other : Result (List Clock) ClockFault) → IsClockOutcome p one → IsClockOutcome p other → one ≡ other

-- of task graphs, words and dates
pub record PlanLaws : Type 0 where
  pub one_graph : (p : FlatProgram) (clocks : List Clock) (a b : TaskGraph) → IsGraphOf p clocks a → IsGraphOf p clocks b → a ≡ b
  pub one_fault : (p : FlatProgram) (clocks : List Clock) (a b : GraphFault) → IsOfProgram a → IsOfProgram b → IsGraphFault p clocks a
      → IsGraphFault p clocks b → a ≡ b
  pub not_both : (p : FlatProgram) (clocks : List Clock) (graph : TaskGraph) (fault : GraphFault) → IsOfProgram fault → IsGraphOf p clocks graph
      → IsGraphFault p clocks fault → ⊥
  pub first : (ops : List Op) (w : Word) → IsWordOf ops w → IsFirstReader ops (length w.prefix)
  pub one_first : (ops : List Op) (p q : ℕ) → IsFirstReader ops p → IsFirstReader ops q → p ≡ q
  pub narrow : (graph : TaskGraph) (fault : DateFault) → IsWellFormed graph → IsDateFault graph fault → IsOfGraph fault → HasNarrowChain graph
  pub room : (graph : TaskGraph) (windows : List (List Window)) → AreEncodedDates graph windows → HaveRoom graph windows → HasNoNarrowChain graph
  pub best : (graph : TaskGraph) (most : ℕ) (job : Job) (a b : ℤ) → IsBest graph most job a → IsBest graph most job b → a ≡ b
  pub dates : (graph : TaskGraph) (a b : List (List Window)) → AreEncodedDates graph a → AreEncodedDates graph b → AreShortWindows a
      → AreShortWindows b → a ≡ b

-- of plans, horizons, schedules and spreads
pub record RunLaws : Type 0 where
  pub plan : (a b : PlanView) → IsPlan a → IsPlan b → a.graph ≡ b.graph → a ≡ b
  pub one_horizon : (plan : PlanView) (until : ℕ) (a b : Horizon) → IsHorizon plan a → IsHorizon plan b → a.until ≡ until → b.until ≡ until → a ≡ b
  pub horizon_or_limit : (plan : PlanView) (until : ℕ) (horizon : Horizon) (limit : Limit) → IsHorizon plan horizon → horizon.until ≡ until
      → IsPastLimit plan until limit → ⊥
  pub one_limit : (plan : PlanView) (until : ℕ) (a b : Limit) → IsPastLimit plan until a → IsPastLimit plan until b → a ≡ b
  pub whole_or_fault : (core : CoreView) (text : List ℕ) (fault : ReplayFault) → IsWholeText core text → IsReplayFault core text fault → ⊥
  pub one_fault : (core : CoreView) (text : List ℕ) (a b : ReplayFault) → IsReplayFault core text a → IsReplayFault core text b → a ≡ b
  pub one_spread : (plan : PlanView) (horizon : Horizon) (a b : Placement) → IsSpread plan a → IsSpread plan b → a.processors ≡ b.processors →
      constants_on plan a horizon ≡ constants_on plan b horizon

-- of all of these
pub record FindOne : Type 0 where
  pub parts : PartLaws
  pub plans : PlanLaws
  pub runs : RunLaws
