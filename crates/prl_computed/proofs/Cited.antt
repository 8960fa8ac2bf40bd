-- The laws of the crates below on which the law of this one rests.
use Rattle.prl_base.proofs.Standard.{◌≡◌, ◌<◌, ◌≤◌, ℕ, List, Option, Some, Result, Ok, length, map, slice_get, AllByRecursion}
use Rattle.prl_base.specs.Clocks.{date_at}
use Rattle.prl_base.specs.declared.operators.Clock.{Clock}
use Rattle.prl_base.specs.declared.values.Ty.{Ty}
use Rattle.prl_base.specs.declared.values.Value.{Value}
use Rattle.prl_ast.specs.Vocabulary.{IsInRange, ProgramTree}
use Rattle.prl_ast.specs.declared.declarations.Import.{Import}
use Rattle.prl_body.specs.Vocabulary.{HaveBodiesOf, IsWellTyped, TextTree, body_tree, checked}
use Rattle.prl_body.specs.declared.bodies.CheckedBody.{CheckedBody}
use Rattle.prl_causal.specs.Vocabulary.{Satisfies, clocks_in, flows_in, state_in, values_in}
use Rattle.prl_clock.specs.Outcomes.{AreOnlyClocks}
use Rattle.prl_expand.specs.Vocabulary.{Expansion, IsExpansion, IsOneToOne, flat_of}
use Rattle.prl_flow.specs.Vocabulary.{AreClocks, FlatProgram, HaveBodies, IsFlat, IsSolution, Rows, Solves, State, argument_flows, registers_before, values_at}
use Rattle.prl_flow.specs.declared.programs.App.{App}
use Rattle.prl_graph.specs.Vocabulary.{AreSmallClocks, IsGraphOf, application_clock, node_no, values_on_dates}
use Rattle.prl_names.specs.Uses.{used_imports}
use Rattle.prl_plan.specs.Vocabulary.{IsHorizonJob, IsPlan, IsWellFormed, PlanView}
use Rattle.prl_plan.specs.declared.graphs.TaskGraph.{TaskGraph}
use Rattle.prl_syntax.specs.Parsing.{IsParsed, IsProgramOf}
use Rattle.prl_syntax.specs.declared.parsing.ParseFault.{ParseFault}
use Rattle.prl_types.specs.Typing.{IsOutcome, IsTyped}
use Rattle.prl_types.specs.declared.faults.TypeFault.{TypeFault}
use Rattle.prl_values.specs.Vocabulary.{AreJobValues, JobValues, job_values, reads_of_job}

-- of texts, programs, expansions and bodies
pub record TextLaws : Type 0 where
  pub programs : (text : List ℕ) (a b : Result ProgramTree ParseFault) → IsParsed text a → IsParsed text b → a ≡ b
  pub one : (p : ProgramTree) (main : Option (List ℕ)) (r s : Result (ℕ × List Ty) TypeFault) → IsOutcome p main r → IsOutcome p main s → r ≡ s
  pub ranges : (text : List ℕ) (p : ProgramTree) → IsProgramOf text p → IsInRange p
  pub expansions : (p : ProgramTree) (main : ℕ) (one other : Expansion) → IsExpansion p main one → IsExpansion p main other → one ≡ other
  pub formed : (p : ProgramTree) (asked : Option (List ℕ)) (main : ℕ) (types : List Ty) (e : Expansion) → IsInRange p → IsTyped p asked main types
      → IsExpansion p main e → length (flows_in e) ≤ 4096 → IsFlat (flat_of p types main e)
  pub used : (imports : List Import) (used : List (List ℕ)) (texts : List TextTree) (bodies : List CheckedBody)
      → checked imports used texts ≡ Ok (map body_tree bodies) → HaveBodiesOf imports used bodies
  pub fitted : (p : ProgramTree) (asked : Option (List ℕ)) (main : ℕ) (types : List Ty) (e : Expansion) → IsInRange p → IsTyped p asked main types
      → IsExpansion p main e → (bodies : List CheckedBody) → HaveBodiesOf p.imports (used_imports p main) bodies → HaveBodies (flat_of p types main e) bodies
  pub solutions : (p : ProgramTree) (asked : Option (List ℕ)) (main : ℕ) (types : List Ty) (e : Expansion) → IsTyped p asked main types → IsExpansion p main e
      → (bodies : List CheckedBody) (rows : Rows) (until : ℕ) → IsOneToOne (Satisfies p main bodies rows until) (IsSolution (flat_of p types main e) bodies rows until) state_in
  pub clocks : (p : FlatProgram) → IsFlat p → (clocks : List Clock) → AreOnlyClocks p clocks
      → (bodies : List CheckedBody) (rows : Rows) (until : ℕ) (s : State) → IsSolution p bodies rows until s → clocks_in s ≡ clocks

-- of solutions and values by instance
pub record ValueLaws : Type 0 where
  pub solves : (p : FlatProgram) (bodies : List CheckedBody) (rows : Rows) (until : ℕ) (s : State) → IsFlat p → IsSolution p bodies rows until s
      → AreClocks p (clocks_in s) × Solves p (clocks_in s) bodies rows until (values_in s)
  pub given : (p : FlatProgram) (clocks : List Clock) (bodies : List CheckedBody) (rows : Rows) (until : ℕ) (flows : List (List Value)) → IsFlat p → AreClocks p clocks
      → AreSmallClocks clocks → HaveBodies p bodies → AllByRecursion IsWellTyped bodies → Solves p clocks bodies rows until flows → (graph : TaskGraph)
      → IsGraphOf p clocks graph → IsWellFormed graph → AreJobValues graph bodies rows until (values_on_dates p clocks flows graph)
  pub registers : (p : FlatProgram) (clocks : List Clock) (bodies : List CheckedBody) (rows : Rows) (until : ℕ) (flows : List (List Value)) → IsFlat p → AreClocks p clocks
      → AreSmallClocks clocks → Solves p clocks bodies rows until flows → (graph : TaskGraph) → IsGraphOf p clocks graph
      → (k n : ℕ) (app : App) (body : CheckedBody) → slice_get p.apps k ≡ Some app → date_at (application_clock clocks app) n < until
      → registers_before body (reads_of_job graph (values_on_dates p clocks flows graph) (node_no p k)) n
      ≡ registers_before body (values_at (application_clock clocks app) (argument_flows flows app)) n
  pub exist : (plan : PlanView) → IsPlan plan → (bodies : List CheckedBody) (rows : Rows) (until : ℕ)
      → AreJobValues plan.graph bodies rows until (job_values plan.graph bodies rows until)
  pub one_given : (plan : PlanView) → IsPlan plan → (bodies : List CheckedBody) (rows : Rows) (until : ℕ) (v w : JobValues) → AreJobValues plan.graph bodies rows until v
      → AreJobValues plan.graph bodies rows until w → (i n : ℕ) → IsHorizonJob plan.graph until i n → v i n ≡ w i n
  pub one_reads : (plan : PlanView) → IsPlan plan → (bodies : List CheckedBody) (rows : Rows) (until : ℕ) (v w : JobValues) → AreJobValues plan.graph bodies rows until v
      → AreJobValues plan.graph bodies rows until w → (i n : ℕ) → IsHorizonJob plan.graph until i n
      → reads_of_job plan.graph v i n ≡ reads_of_job plan.graph w i n
