-- A program has one placement on the processors of its text, or one fault of it; and its schedule there is whole or is refused with one fault.
use Rattle.prl_base.proofs.Standard.{◌≡◌, ◌+◌, ℕ, Bool, List, [], Some, Ok, Err, Result, sym, ap, ◌∙◌, subst, slice_get, take}
use Rattle.prl_core.specs.Cores.{opened_on}
use Rattle.prl_cores.specs.declared.texts.CoresFault.{CoresFault}
use Rattle.prl_cores.specs.Processors.{processors_of}
use Rattle.prl_plan.specs.Vocabulary.{Placement, constants_on, PlanView, IsLegal, FirstBroken, IsFirstUnfinished, RunConstants, opening, after_events, IsSpread}
use Rattle.prl_plan.specs.declared.events.Event.{Event}
use Rattle.prl_plan.specs.declared.graphs.TaskGraph.{TaskGraph}
use Rattle.prl_plan.specs.declared.horizons.Horizon.{Horizon}
use Rattle.prl_replay.specs.Replays.{IsReplayFault}
use Rattle.prl_replay.specs.declared.faults.ReplayFault.{ReplayFault}
use Rattle.prl_replay.specs.declared.faults.ReplayFault.TheVariants as causes
use Rattle.prl_schedules.specs.declared.schedules.ScheduleFault.TheVariants as lines
use Rattle.prl_schedules.specs.Vocabulary.{schedule_of, task_names}
use Rattle.prl_stages.specs.declared.faults.InputFile.TheVariants as parts
use Rattle.prl_stages.specs.Vocabulary.{Fault, Given, text_of, HasPlacement, IsPlacedRun, Lists, RefusesCores, RefusesPlaced, cores_refusal, HasGraph, HasPlan, schedule_refusal, HasHorizon, RunLaws}
use Rattle.prl_stages.specs.declared.faults.Fault.TheVariants as faults
use Rattle.prl_stages.proofs.OneRun.{one_plan, moved}
use Rattle.prl_stages.proofs.Told.{some_some}

ok_ok : {A F : Type 0} (r : Result A F) (x y : A) → r ≡ Ok x → r ≡ Ok y → x ≡ y
ok_ok r x y h k = cc

ok_err : {A F : Type 0} (r : Result A F) (x : A) (y : F) → r ≡ Ok x → r ≡ Err y → ⊥
ok_err r x y h k = cc

err_err : {A F : Type 0} (r : Result A F) (x y : F) → r ≡ Err x → r ≡ Err y → x ≡ y
err_err r x y h k = cc

-- why the lines of a text are no whole run with these constants
abbrev FaultBy : List (List ℕ) → List ℕ → ReplayFault → RunConstants → Type 0
FaultBy names text (causes.Syntax line) c = schedule_of names text ≡ Err (lines.Syntax line)
FaultBy names text (causes.Illegal line rule) c =
    (events : List Event) × (schedule_of names text ≡ Ok events) × ((i : ℕ) × (event : Event) × (line ≡ i + 1) × (slice_get events i ≡ Some event)
    × IsLegal c (opening c) (take i events) × FirstBroken c (after_events c (opening c) (take i events)) event rule)
FaultBy names text (causes.Unfinished task job) c =
    (events : List Event) × (schedule_of names text ≡ Ok events) × (IsLegal c (opening c) events × IsFirstUnfinished c (after_events c (opening c) events) task.0 job)
FaultBy names text causes.Memory c = (events : List Event) × (schedule_of names text ≡ Ok events) × ⊥

fault_by : (plan : PlanView) (placement : Placement) (horizon : Horizon) (text : List ℕ) (fault : ReplayFault) → IsReplayFault (opened_on plan placement [] [] horizon) text fault →
    FaultBy (task_names plan) text fault (constants_on plan placement horizon)
fault_by plan placement horizon text (causes.Syntax line) h = h
fault_by plan placement horizon text (causes.Illegal line rule) h = h
fault_by plan placement horizon text (causes.Unfinished task job) h = h
fault_by plan placement horizon text causes.Memory h = h

by_fault : (plan : PlanView) (placement : Placement) (horizon : Horizon) (text : List ℕ) (fault : ReplayFault) →
    FaultBy (task_names plan) text fault (constants_on plan placement horizon) → IsReplayFault (opened_on plan placement [] [] horizon) text fault
by_fault plan placement horizon text (causes.Syntax line) h = h
by_fault plan placement horizon text (causes.Illegal line rule) h = h
by_fault plan placement horizon text (causes.Unfinished task job) h = h
by_fault plan placement horizon text causes.Memory h = h

-- a placement by the text of processors, and a fault of the schedule there
abbrev FaultyOn : Given → ReplayFault → PlanView → Horizon → Type 0
FaultyOn g cause plan horizon =
    (placement : Placement) × (processors_of (task_names plan) (text_of g parts.Cores) ≡ Ok placement.processors) × IsSpread plan placement
    × IsReplayFault (opened_on plan placement [] [] horizon) (text_of g parts.Schedule) cause

module _ (law : RunLaws) (g : Given) (one_graph : (a b : TaskGraph) → HasGraph g a → HasGraph g b → a ≡ b) where
  -- a text of processors of one plan is one of the other
  texts : (a b : PlanView) → HasPlan g a → HasPlan g b → (r : Result (List ℕ) CoresFault) → processors_of (task_names a) (text_of g parts.Cores) ≡ r →
      processors_of (task_names b) (text_of g parts.Cores) ≡ r
  texts a b h k r is = subst (λ (p : PlanView). processors_of (task_names p) (text_of g parts.Cores) ≡ r) (one_plan law g one_graph a b h k) is

  pub cores_apart : (plan : PlanView) (placement : Placement) (f : Fault) → HasPlacement g plan placement → RefusesCores g f → ⊥
  cores_apart plan placement f h k =
      ok_err (processors_of (task_names plan) (text_of g parts.Cores)) placement.processors k.2 h.read (texts k.0 plan k.1 h.has_plan (Err k.2) k.3)

  pub cores_one : (a b : Fault) → RefusesCores g a → RefusesCores g b → a ≡ b
  cores_one a b h k =
      let cause : h.2 ≡ k.2 = err_err (processors_of (task_names h.0) (text_of g parts.Cores)) h.2 k.2 h.3 (texts k.0 h.0 k.1 h.1 (Err k.2) k.3) in
      let graphs : k.0.graph ≡ h.0.graph = ap (λ (p : PlanView). p.graph) (one_plan law g one_graph k.0 h.0 k.1 h.1) in
      let there : cores_refusal h.0.graph k.2 ≡ Some k.4 = subst (λ (x : TaskGraph). cores_refusal x k.2 ≡ Some k.4) graphs k.5 in
      let here : cores_refusal h.0.graph h.2 ≡ Some k.4 = subst (λ (x : CoresFault). cores_refusal h.0.graph x ≡ Some k.4) (sym cause) there in
      h.6 ∙ ap faults.Cores (some_some (cores_refusal h.0.graph h.2) h.4 k.4 h.5 here) ∙ sym k.6

  -- the fault of a refused schedule, on another plan, horizon and placement of the same texts
  fault_there : (f : Fault) (k : RefusesPlaced g f) (plan : PlanView) (placement : Placement) (horizon : Horizon) → HasHorizon g plan horizon → HasPlacement g plan placement →
      IsReplayFault (opened_on plan placement [] [] horizon) (text_of g parts.Schedule) k.cause
  fault_there f k plan placement horizon has_horizon has_placement =
      let there : FaultyOn g k.cause plan horizon =
      moved law g one_graph k.plan plan k.horizon horizon (λ p a. FaultyOn g k.cause p a) k.has_horizon has_horizon (k.placement, k.has_placement.read, k.has_placement.spread, k.is_cause) in
      let same = ok_ok (processors_of (task_names plan) (text_of g parts.Cores)) there.0.processors placement.processors there.1 has_placement.read in
      by_fault plan placement horizon (text_of g parts.Schedule) k.cause
      (subst (λ (c : RunConstants). FaultBy (task_names plan) (text_of g parts.Schedule) k.cause c) (law.one_spread plan horizon there.0 placement there.2 has_placement.spread same)
      (fault_by plan there.0 horizon (text_of g parts.Schedule) k.cause there.3))

  pub placed_apart : (plan : PlanView) (placement : Placement) (horizon : Horizon) (f : Fault) → IsPlacedRun g plan placement horizon → RefusesPlaced g f → ⊥
  placed_apart plan placement horizon f h k =
      let listed : schedule_of (task_names plan) (text_of g parts.Schedule) ≡ Ok h.events =
      subst (λ (b : Bool). Lists b g plan placement horizon h.events) k.listed h.listed in
      law.whole_or_fault (opened_on plan placement [] [] horizon) (text_of g parts.Schedule) k.cause (h.events, listed, h.legal, h.complete)
      (fault_there f k plan placement horizon h.has_horizon h.has_placement)

  pub placed_one : (a b : Fault) → RefusesPlaced g a → RefusesPlaced g b → a ≡ b
  placed_one a b h k =
      let cause : h.cause ≡ k.cause =
      law.one_fault (opened_on h.plan h.placement [] [] h.horizon) (text_of g parts.Schedule) h.cause k.cause h.is_cause
      (fault_there b k h.plan h.placement h.horizon h.has_horizon h.has_placement) in
      let graphs : k.plan.graph ≡ h.plan.graph = ap (λ (p : PlanView). p.graph) (one_plan law g one_graph k.plan h.plan k.has_horizon.has_plan h.has_horizon.has_plan) in
      let there : schedule_refusal h.plan.graph k.cause ≡ Some k.refusal = subst (λ (x : TaskGraph). schedule_refusal x k.cause ≡ Some k.refusal) graphs k.told in
      let here : schedule_refusal h.plan.graph h.cause ≡ Some k.refusal = subst (λ (x : ReplayFault). schedule_refusal h.plan.graph x ≡ Some k.refusal) (sym cause) there in
      h.is ∙ ap faults.Schedule (some_some (schedule_refusal h.plan.graph h.cause) h.refusal k.refusal h.told here) ∙ sym k.is
