-- Where the stages of a mode hold, there is a text that it means.
use Rattle.prl_base.proofs.Standard.{◌≡◌, ◌++◌, ℕ, Bool, true, false, List, [], ◌∷◌, map, Option, None, refl, subst, arith, IsPermutation}
use Rattle.prl_arguments.specs.declared.arguments.Mode.TheVariants as modes
use Rattle.prl_body.specs.Checks.{body_tree}
use Rattle.prl_body.specs.declared.bodies.CheckedBody.{CheckedBody}
use Rattle.prl_edf.specs.Vocabulary.{IsEdfRun, MeetsAllWindows, run_of, AreUnits, wcets_of, IsVerdict, verdict_line}
use Rattle.prl_edf.specs.declared.analysis.Verdict.{Verdict}
use Rattle.prl_flow.specs.Actuators.{actuator_text}
use Rattle.prl_plan.specs.Vocabulary.{HasPlanFacts, IsHorizon, constants_of, IsPlan, PlanView, RunConstants}
use Rattle.prl_plan.specs.declared.horizons.Horizon.{Horizon}
use Rattle.prl_plan.proofs.RoundPeriods.{task_is}
use Rattle.prl_plantext.specs.PlanTexts.{plan_text}
use Rattle.prl_print.specs.Printing.{printed}
use Rattle.prl_table.specs.Made.{IsSteadyRun, cut_from, cut_to, run_until}
use Rattle.prl_tables.specs.Vocabulary.{IsGood, text_of as table_text}
use Rattle.prl_overlaps.specs.declared.entries.Entry.{Entry}
use Rattle.prl_rule.specs.declared.views.Gate.{Gate}
use Rattle.prl_stages.specs.Vocabulary.{Stage, Given, AreBodies, HasPlan, accepted_line, meant_flows, HasHorizon, IsScheduleText, Comes, Holds, IsText, front, graphed, planned, stages_after}
use Rattle.prl_stages.specs.Vocabulary.{IsCycleText, IsRunText, IsSummary, HasMadeTable, HasTable, PartLaws, RunningLaws, WholeLaws}
use Rattle.prl_stages.specs.declared.ran.Ran.{Ran}
use Rattle.prl_stages.specs.declared.stages.Stage.TheVariants as stages
use Rattle.prl_stages.proofs.AllHold.{behind, first_holds}
use Rattle.prl_stages.proofs.Replaying as replaying

-- the last stage of a list holds
last_holds : (g : Given) (first : List Stage) (stage : Stage) → Comes g (first ++ stage ∷ []) None → Holds g stage
last_holds g first stage comes = (first_holds g stage [] (behind g first (stage ∷ []) comes)).0

-- the text of a program, of a plan and of its size
pub print_text : (g : Given) (named : Bool) → Comes g (stages_after modes.Print named) None → (text : List ℕ) × IsText g modes.Print text
print_text g named comes = let is = last_holds g [] stages.Grammar comes in (printed is.0, (is.0, is.1, refl))

abbrev to_plan : List Stage
to_plan = front ++ graphed ++ stages.Dates ∷ []

pub some_plan_text : (g : Given) (named : Bool) → Comes g (stages_after modes.Plan named) None → (text : List ℕ) × IsText g modes.Plan text
some_plan_text g named comes = let is = last_holds g to_plan stages.Cells comes in (plan_text is.0, (is.0, is.1, refl))

checked_plan : (g : Given) (named : Bool) → Comes g (stages_after modes.Check named) None → (plan : PlanView) × HasPlan g plan
checked_plan g false comes = last_holds g to_plan stages.Cells comes
checked_plan g true comes = last_holds g (front ++ graphed ++ stages.Bodies ∷ stages.Dates ∷ []) stages.Cells comes

pub check_text : (g : Given) (named : Bool) → Comes g (stages_after modes.Check named) None → (text : List ℕ) × IsText g modes.Check text
check_text g named comes = let is = checked_plan g named comes in (accepted_line is.0, (is.0, is.1, refl))

abbrev to_cells : List Stage
to_cells = front ++ graphed ++ planned

pub schedule_text : ((g : Given) (plan : PlanView) (horizon : Horizon) → HasHorizon g plan horizon → (text : List ℕ) × IsScheduleText g text) → (g : Given) (named : Bool)
    → Comes g (stages_after modes.Schedule named) None → (text : List ℕ) × IsText g modes.Schedule text
schedule_text law g named comes = let is = last_holds g to_cells stages.Horizon comes in law g is.0 is.1 is.2

-- the laws of verdicts
pub record VerdictLaws : Type 0 where
  pub facts : (plan : PlanView) (horizon : Horizon) → IsPlan plan → IsHorizon plan horizon → HasPlanFacts (constants_of plan horizon)
  pub exist : (c : RunConstants) → HasPlanFacts c → (cost : ℕ → ℕ → ℕ) → AreUnits c cost cost → (verdict : Verdict) × IsVerdict c cost verdict

-- each job costs one unit or more
costs : (plan : PlanView) (horizon : Horizon) → IsPlan plan → AreUnits (constants_of plan horizon) (wcets_of plan) (wcets_of plan)
costs plan horizon is i n job =
    let some = (task_is plan.graph is.graph i job.task).wcet.0 in
    (some, omega arith)

pub edf_text : VerdictLaws → (g : Given) (named : Bool) → Comes g (stages_after modes.Edf named) None → (text : List ℕ) × IsText g modes.Edf text
edf_text law g named comes =
    let holds = last_holds g to_cells stages.Horizon comes in
    let plan : PlanView = holds.0 in
    let horizon : Horizon = holds.1 in
    let has : HasHorizon g plan horizon = holds.2 in
    let is_plan = has.has_plan.is_plan in
    let verdict = law.exist (constants_of plan horizon) (law.facts plan horizon is_plan has.is_horizon) (wcets_of plan) (costs plan horizon is_plan) in
    (verdict_line horizon.jobs verdict.0, record { plan = plan; horizon = horizon; has_horizon = has; verdict = verdict.0; is_verdict = verdict.1; written = refl })

-- the law of made tables
abbrev pub IsGoodCut : Type 0
IsGoodCut = (plan : PlanView) (horizon : Horizon) → IsPlan plan → horizon.until ≡ run_until plan → (run : ℕ → Option (ℕ × ℕ))
    → IsEdfRun (constants_of plan horizon) (wcets_of plan) run → MeetsAllWindows (constants_of plan horizon) (wcets_of plan) run
    → IsSteadyRun plan run → (entries : List Entry) → IsPermutation (cut_to plan run (cut_from plan) plan.graph.hyper) entries → IsGood plan entries

pub some_table_text : IsGoodCut → (g : Given) (named : Bool) → Comes g (stages_after modes.Table named) None → (text : List ℕ) × IsText g modes.Table text
some_table_text law g named comes =
    let holds = last_holds g to_cells stages.Made comes in
    let plan : PlanView = holds.0 in
    let entries : List Entry = holds.1 in
    let has : HasMadeTable g plan entries = holds.2 in
    let made = has.made in
    let good = law plan made.within has.has_plan.is_plan made.run.until (run_of made.timed.pieces) made.run.run.plain.edf made.run.run.met made.steady entries made.cut in
    (table_text plan.graph.hyper entries, record { plan = plan; entries = entries; made = has; good = good; written = refl })

-- the texts of what is computed, where the bodies of the text are given
module _ (one : PartLaws) (law : RunningLaws) (whole : WholeLaws) (g : Given) (bodies : List CheckedBody) (trees : AreBodies g (map body_tree bodies)) (named : Bool) where
  pub flows_text : Comes g (stages_after modes.Flows named) None → (text : List ℕ) × IsText g modes.Flows text
  flows_text comes =
      let rows = (first_holds g stages.Rows (stages.Values ∷ []) (behind g (front ++ stages.Bodies ∷ []) (stages.Rows ∷ stages.Values ∷ []) comes)).0 in
      let meaning = replaying.meaning_there one law whole g bodies trees rows.0 rows.1 rows.2 rows.3 in
      (actuator_text g.until (meant_flows g meaning), record { meaning = meaning; written = refl })

  abbrev to_horizon : List Stage
  to_horizon = front ++ graphed ++ (stages.Bodies ∷ []) ++ planned ++ stages.Horizon ∷ []

  pub replay_text : Comes g (stages_after modes.Replay named) None → (text : List ℕ) × IsText g modes.Replay text
  replay_text comes =
      let rest = first_holds g stages.Rows (stages.Schedule ∷ []) (behind g to_horizon (stages.Rows ∷ stages.Schedule ∷ []) comes) in
      let rows = rest.0 in
      let run = (first_holds g stages.Schedule [] rest.1).0 in
      replaying.some_text one law whole g bodies trees rows.0 rows.1 rows.2 rows.3 run.0 run.1 run.2.has_horizon run.2.events run.2.listed run.2.whole

  pub cores_text : Comes g (stages_after modes.Cores named) None → (text : List ℕ) × IsText g modes.Cores text
  cores_text comes =
      let rest = first_holds g stages.Rows (stages.Cores ∷ stages.Placed ∷ []) (behind g to_horizon (stages.Rows ∷ stages.Cores ∷ stages.Placed ∷ []) comes) in
      let rows = rest.0 in
      let run = (first_holds g stages.Placed [] (first_holds g stages.Cores (stages.Placed ∷ []) rest.1).1).0 in
      replaying.some_cores_text one law whole g bodies trees rows.0 rows.1 rows.2 rows.3 run.0 run.2 run.3.has_horizon run.1 run.3

  abbrev to_planned : List Stage
  to_planned = front ++ graphed ++ (stages.Bodies ∷ []) ++ planned

  -- the horizon and the rows of a mode that runs the tasks, and what comes behind
  executed : (rest : List Stage) → Comes g (to_planned ++ stages.Horizon ∷ stages.Rows ∷ rest) None → Holds g stages.Horizon × (Holds g stages.Rows × Comes g rest None)
  executed rest comes =
      let first = first_holds g stages.Horizon (stages.Rows ∷ rest) (behind g to_planned (stages.Horizon ∷ stages.Rows ∷ rest) comes) in
      (first.0, first_holds g stages.Rows rest first.1)

  pub run_text : Comes g (stages_after modes.Run named) None → (gate : Gate) → (text : List ℕ) × (ran : Ran) × IsRunText g gate text ran
  run_text comes gate =
      let both = executed [] comes in
      let horizon : Holds g stages.Horizon = both.0 in
      let rows : Holds g stages.Rows = both.1.0 in
      replaying.some_run_text one law whole g bodies trees rows.0 rows.1 rows.2 rows.3 horizon.0 horizon.1 horizon.2 gate

  pub summary_text : Comes g (stages_after modes.Generate named) None → (seed size : ℕ) → (text : List ℕ) × (ran : Ran) × IsSummary g seed size text ran
  summary_text comes seed size =
      let both = executed [] comes in
      let horizon : Holds g stages.Horizon = both.0 in
      let rows : Holds g stages.Rows = both.1.0 in
      replaying.some_summary one law whole g bodies trees rows.0 rows.1 rows.2 rows.3 horizon.0 horizon.1 horizon.2 seed size

  pub cycle_text : ((a b : PlanView) → HasPlan g a → HasPlan g b → a ≡ b) → Comes g (stages_after modes.Cycle named) None → (text : List ℕ) × (ran : Ran) × IsCycleText g text ran
  cycle_text plans comes =
      let both = executed (stages.Table ∷ []) comes in
      let horizon : Holds g stages.Horizon = both.0 in
      let rest = both.1 in
      let rows : Holds g stages.Rows = rest.0 in
      let table : Holds g stages.Table = (first_holds g stages.Table [] rest.1).0 in
      let here : HasTable g horizon.0 table.1 =
      subst (λ (p : PlanView). HasTable g p table.1) (plans table.0 horizon.0 table.2.has_plan horizon.2.has_plan) table.2 in
      replaying.some_cycle_text one law whole g bodies trees rows.0 rows.1 rows.2 rows.3 horizon.0 horizon.1 horizon.2 table.1 here
