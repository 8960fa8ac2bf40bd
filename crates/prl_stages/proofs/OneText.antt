-- The text that a mode means is one.
use Rattle.prl_base.proofs.Standard.{◌≡◌, ◌++◌, ℕ, Bool, true, false, List, Ok, sym, ap, ◌∙◌, subst, length}
use Rattle.prl_arguments.specs.declared.arguments.Mode.TheVariants as modes
use Rattle.prl_base.specs.declared.operators.Clock.{Clock}
use Rattle.prl_core.specs.Cores.{opened, opened_on}
use Rattle.prl_cores.specs.Processors.{processors_of}
use Rattle.prl_edf.specs.Vocabulary.{wcets_of, IsVerdict, verdict_line}
use Rattle.prl_edf.specs.declared.analysis.Verdict.{Verdict}
use Rattle.prl_flow.specs.Vocabulary.{actuator_text, FlatProgram}
use Rattle.prl_flow.specs.declared.programs.OutFlow.{OutFlow}
use Rattle.prl_plan.specs.Vocabulary.{HasPlanFacts, IsHorizon, Placement, constants_of, constants_on, IsPlan, PlanView, RunConstants, opening, IsSpread}
use Rattle.prl_plan.specs.declared.events.Event.{Event}
use Rattle.prl_plan.specs.declared.horizons.Horizon.{Horizon}
use Rattle.prl_plantext.specs.PlanTexts.{plan_text}
use Rattle.prl_print.specs.Printing.{printed}
use Rattle.prl_replay.specs.Replays.{IsReplay}
use Rattle.prl_rule.specs.declared.views.Gate.{Gate}
use Rattle.prl_schedules.specs.Vocabulary.{IsDispatched, text_of_reads, schedule_of, task_names, text_of_events}
use Rattle.prl_table.specs.MakeFaults.{IsMade}
use Rattle.prl_tables.specs.TableTexts.{text_of as table_text}
use Rattle.prl_overlaps.specs.declared.entries.Entry.{Entry}
use Rattle.prl_track.specs.declared.seen.Seen.{Seen}
use Rattle.prl_stages.specs.declared.faults.InputFile.TheVariants as parts
use Rattle.prl_stages.specs.Vocabulary.{IsEdfText, HasClocks, Given, text_of, HasPlacement, IsCoresText, Lists, HasPlan, accepted_line, IsCycleText, IsRunText, IsSummary, sum_of, summary_line}
use Rattle.prl_stages.specs.Vocabulary.{Execution, IsReplayText, IsFlowsText, meant_flows, HasHorizon, IsScheduleText, IsText, IsTableText}
use Rattle.prl_stages.specs.declared.ran.Ran.{Ran}
use Rattle.prl_stages.proofs.OneDispatch.{one_dispatched}
use Rattle.prl_stages.proofs.OneMeaning.{MeaningLaws, graphs, one_meant, same_alone, same_flows, same_horizon, same_machines, same_plan}
use Rattle.prl_stages.proofs.OneParts.{ok_ok, one_program}
use Rattle.prl_stages.proofs.OneRun.{moved, one_plan}
use Rattle.prl_stages.proofs.OneTold.{one_reads}

-- the laws of the crates below
pub record Laws : Type 0 where
  pub meaning : MeaningLaws
  pub facts : (plan : PlanView) (horizon : Horizon) → IsPlan plan → IsHorizon plan horizon → HasPlanFacts (constants_of plan horizon)
  pub verdicts : (c : RunConstants) → HasPlanFacts c → (cost : ℕ → ℕ → ℕ) (verdict other : Verdict) → IsVerdict c cost verdict → IsVerdict c cost other → verdict ≡ other
  pub made : (plan : PlanView) → IsPlan plan → (a b : List Entry) → IsMade plan a → IsMade plan b → a ≡ b

-- the text of reads and flows of one plan
written_one : (until : ℕ) (p q : PlanView) (x y : List Seen) (u v : List OutFlow) → p ≡ q → x ≡ y → u ≡ v
    → text_of_reads (task_names p) x ++ actuator_text until u ≡ text_of_reads (task_names q) y ++ actuator_text until v
written_one until p q x y u v plans reads outs =
    ap (λ (z : PlanView). text_of_reads (task_names z) x ++ actuator_text until u) plans
    ∙ ap (λ (z : List Seen). text_of_reads (task_names q) z ++ actuator_text until u) reads
    ∙ ap (λ (z : List OutFlow). text_of_reads (task_names q) y ++ actuator_text until z) outs

module _ (law : Laws) (g : Given) where
  plans : (a b : PlanView) → HasPlan g a → HasPlan g b → a ≡ b
  plans = one_plan law.meaning.ones.runs g (graphs law.meaning g)

  -- what holds of one plan with its horizon holds of the other
  there : (p q : PlanView) (a b : Horizon) (P : PlanView → Horizon → Type 0) → HasHorizon g p a → HasHorizon g q b → P p a → P q b
  there = moved law.meaning.ones.runs g (graphs law.meaning g)

  pub print_one : (a b : List ℕ) → IsText g modes.Print a → IsText g modes.Print b → a ≡ b
  print_one a b h k = h.2 ∙ ap printed (one_program law.meaning.ones.parts g h.0 k.0 h.1 k.1) ∙ sym k.2

  pub plan_one : (a b : List ℕ) → IsText g modes.Plan a → IsText g modes.Plan b → a ≡ b
  plan_one a b h k = h.2 ∙ ap plan_text (plans h.0 k.0 h.1 k.1) ∙ sym k.2

  pub check_one : (a b : List ℕ) → IsText g modes.Check a → IsText g modes.Check b → a ≡ b
  check_one a b h k = h.2 ∙ ap accepted_line (plans h.0 k.0 h.1 k.1) ∙ sym k.2

  pub schedule_one : (a b : List ℕ) → IsScheduleText g a → IsScheduleText g b → a ≡ b
  schedule_one a b h k =
      let P : PlanView → Horizon → Type 0 =
      λ p t. IsDispatched (constants_of p t) (opening (constants_of p t)) h.events × (a ≡ text_of_events (task_names p) h.events) in
      let is : P k.plan k.horizon = there h.plan k.plan h.horizon k.horizon P h.has_horizon k.has_horizon (h.dispatched, h.written) in
      let c = constants_of k.plan k.horizon in
      is.1 ∙ ap (text_of_events (task_names k.plan)) (one_dispatched c (opening c) h.events k.events is.0 k.dispatched) ∙ sym k.written

  pub edf_one : (a b : List ℕ) → IsEdfText g a → IsEdfText g b → a ≡ b
  edf_one a b h k =
      let P : PlanView → Horizon → Type 0 = λ p t. IsVerdict (constants_of p t) (wcets_of p) h.verdict × (a ≡ verdict_line t.jobs h.verdict) in
      let is : P k.plan k.horizon = there h.plan k.plan h.horizon k.horizon P h.has_horizon k.has_horizon (h.is_verdict, h.written) in
      let facts = law.facts k.plan k.horizon k.has_horizon.has_plan.is_plan k.has_horizon.is_horizon in
      let same = law.verdicts (constants_of k.plan k.horizon) facts (wcets_of k.plan) h.verdict k.verdict is.0 k.is_verdict in
      is.1 ∙ ap (verdict_line k.horizon.jobs) same ∙ sym k.written

  pub table_one : (a b : List ℕ) → IsTableText g a → IsTableText g b → a ≡ b
  table_one a b h k =
      let same = plans h.plan k.plan h.made.has_plan k.made.has_plan in
      let made : IsMade k.plan h.entries = subst (λ (p : PlanView). IsMade p h.entries) same h.made.made in
      h.written
      ∙ ap (λ (p : PlanView). table_text p.graph.hyper h.entries) same
      ∙ ap (table_text k.plan.graph.hyper) (law.made k.plan k.made.has_plan.is_plan h.entries k.entries made k.made.made)
      ∙ sym k.written

  pub flows_one : (flat : FlatProgram) (clocks : List Clock) → HasClocks g flat clocks → (a b : List ℕ) → IsFlowsText g a → IsFlowsText g b → a ≡ b
  flows_one flat clocks has a b h k = h.written ∙ ap (actuator_text g.until) (one_meant law.meaning g flat clocks has h.meaning k.meaning) ∙ sym k.written

  -- the flows of main's outputs, of two runs
  meant_one : (e f : Execution g) → actuator_text g.until (meant_flows g e.meaning) ≡ actuator_text g.until (meant_flows g f.meaning)
  meant_one e f = ap (actuator_text g.until) (same_flows law.meaning g e f)

  pub replay_one : (a b : List ℕ) → IsReplayText g a → IsReplayText g b → a ≡ b
  replay_one a b h k =
      let e : Execution g = h.execution in
      let f : Execution g = k.execution in
      let same = same_plan law.meaning g e f in
      let listed : schedule_of (task_names f.plan) (text_of g parts.Schedule) ≡ Ok h.events =
      subst (λ (p : PlanView). schedule_of (task_names p) (text_of g parts.Schedule) ≡ Ok h.events) same h.listed in
      let list : k.events ≡ h.events = ok_ok (schedule_of (task_names f.plan) (text_of g parts.Schedule)) k.events h.events k.listed listed in
      let run : IsReplay (opened f.plan f.meaning.bodies f.meaning.rows f.horizon) h.events k.reads =
      subst (λ (es : List Event). IsReplay (opened f.plan f.meaning.bodies f.meaning.rows f.horizon) es k.reads) list k.trace.run in
      let reads = one_reads (opened e.plan e.meaning.bodies e.meaning.rows e.horizon) (opened f.plan f.meaning.bodies f.meaning.rows f.horizon)
      (same_machines law.meaning g e f _ _ (same_alone law.meaning g e f)) h.events h.reads k.reads h.trace.run run in
      let outs : h.outs ≡ k.outs = h.outputs ∙ same_flows law.meaning g e f ∙ sym k.outputs in
      h.written ∙ written_one g.until e.plan f.plan h.reads k.reads h.outs k.outs same reads outs ∙ sym k.written

  -- the list of a placement, where the constants are one
  list_one : (listed : Bool) (p q : PlanView) (here other : Placement) (s t : Horizon) → p ≡ q → constants_on p here s ≡ constants_on q other t
      → (x y : List Event) → Lists listed g p here s x → Lists listed g q other t y → x ≡ y
  list_one true p q here other s t same runs x y h k =
      let at : schedule_of (task_names q) (text_of g parts.Schedule) ≡ Ok x =
      subst (λ (z : PlanView). schedule_of (task_names z) (text_of g parts.Schedule) ≡ Ok x) same h in
      ok_ok (schedule_of (task_names q) (text_of g parts.Schedule)) x y at k
  list_one false p q here other s t same runs x y h k =
      let at : IsDispatched (constants_on q other t) (opening (constants_on q other t)) x = subst (λ (c : RunConstants). IsDispatched c (opening c) x) runs h in
      one_dispatched (constants_on q other t) (opening (constants_on q other t)) x y at k

  -- the tasks run at the same places
  places_one : (e f : Execution g) (here other : Placement) → HasPlacement g e.plan here → HasPlacement g f.plan other
      → constants_on e.plan here e.horizon ≡ constants_on f.plan other f.horizon
  places_one e f here other h k =
      let same = same_plan law.meaning g e f in
      let read : processors_of (task_names f.plan) (text_of g parts.Cores) ≡ Ok here.processors =
      subst (λ (p : PlanView). processors_of (task_names p) (text_of g parts.Cores) ≡ Ok here.processors) same h.read in
      let spread : IsSpread f.plan here = subst (λ (p : PlanView). IsSpread p here) same h.spread in
      let processors = ok_ok (processors_of (task_names f.plan) (text_of g parts.Cores)) here.processors other.processors read k.read in
      ap (λ (p : PlanView). constants_on p here e.horizon) same
      ∙ ap (λ (t : Horizon). constants_on f.plan here t) (same_horizon law.meaning g e f)
      ∙ law.meaning.ones.runs.one_spread f.plan f.horizon here other spread k.spread processors

  pub cores_one : (a b : List ℕ) → IsCoresText g a → IsCoresText g b → a ≡ b
  cores_one a b h k =
      let e : Execution g = h.execution in
      let f : Execution g = k.execution in
      let same = same_plan law.meaning g e f in
      let runs = places_one e f h.placement k.placement h.has_placement k.has_placement in
      let list : k.events ≡ h.events = sym (list_one g.listed e.plan f.plan h.placement k.placement e.horizon f.horizon same runs h.events k.events h.listed k.listed) in
      let run : IsReplay (opened_on f.plan k.placement f.meaning.bodies f.meaning.rows f.horizon) h.events k.reads =
      subst (λ (es : List Event). IsReplay (opened_on f.plan k.placement f.meaning.bodies f.meaning.rows f.horizon) es k.reads) list k.trace.run in
      let reads = one_reads (opened_on e.plan h.placement e.meaning.bodies e.meaning.rows e.horizon)
      (opened_on f.plan k.placement f.meaning.bodies f.meaning.rows f.horizon) (same_machines law.meaning g e f h.placement k.placement runs) h.events
      h.reads k.reads h.trace.run run in
      let outs : h.outs ≡ k.outs = h.outputs ∙ same_flows law.meaning g e f ∙ sym k.outputs in
      h.written ∙ written_one g.until e.plan f.plan h.reads k.reads h.outs k.outs same reads outs ∙ sym k.written

  pub run_one : (clock : Gate) (a b : List ℕ) (ran other : Ran) → IsRunText g clock a ran → IsRunText g clock b other → a ≡ b
  run_one clock a b ran other h k = h.1.written ∙ meant_one h.0 k.0 ∙ sym k.1.written

  pub cycle_one : (a b : List ℕ) (ran other : Ran) → IsCycleText g a ran → IsCycleText g b other → a ≡ b
  cycle_one a b ran other h k = h.written ∙ meant_one h.execution k.execution ∙ sym k.written

  -- the line of a summary, by its plan, its horizon, its reads and its flows
  abbrev line : ℕ → ℕ → PlanView → Horizon → List Seen → List OutFlow → List ℕ
  line seed size plan horizon reads outs =
      summary_line seed size (length plan.graph.tasks) (length plan.graph.edges) horizon.jobs (length reads) (sum_of outs)

  pub summary_one : (seed size : ℕ) (a b : List ℕ) (ran other : Ran) → IsSummary g seed size a ran → IsSummary g seed size b other → a ≡ b
  summary_one seed size a b ran other h k =
      let e : Execution g = h.execution in
      let f : Execution g = k.execution in
      let plan = same_plan law.meaning g e f in
      let horizon = same_horizon law.meaning g e f in
      let flows = same_flows law.meaning g e f in
      let runs = same_alone law.meaning g e f in
      let c = constants_of f.plan f.horizon in
      let dispatched : IsDispatched c (opening c) h.events = subst (λ (x : RunConstants). IsDispatched x (opening x) h.events) runs h.dispatched in
      let list : k.events ≡ h.events = sym (one_dispatched c (opening c) h.events k.events dispatched k.dispatched) in
      let run : IsReplay (opened f.plan f.meaning.bodies f.meaning.rows f.horizon) h.events k.reads =
      subst (λ (es : List Event). IsReplay (opened f.plan f.meaning.bodies f.meaning.rows f.horizon) es k.reads) list k.trace.run in
      let reads = one_reads (opened e.plan e.meaning.bodies e.meaning.rows e.horizon) (opened f.plan f.meaning.bodies f.meaning.rows f.horizon)
      (same_machines law.meaning g e f _ _ runs) h.events h.reads k.reads h.trace.run run in
      h.written
      ∙ ap (λ (x : PlanView). line seed size x e.horizon h.reads (meant_flows g e.meaning)) plan
      ∙ ap (λ (x : Horizon). line seed size f.plan x h.reads (meant_flows g e.meaning)) horizon
      ∙ ap (λ (x : List Seen). line seed size f.plan f.horizon x (meant_flows g e.meaning)) reads
      ∙ ap (λ (x : List OutFlow). line seed size f.plan f.horizon k.reads x) flows
      ∙ sym k.written
