-- Tables and processors are decided, by the laws of the crates below: the table that is made, the table of a text, where the tasks run, and
-- the run there.
use Rattle.std.proofs.Common.{◌≡◌, ◌≢◌, ◌⊎◌, ℕ, Bool, true, false, List, [], Some, Ok, Err, refl, sym, inl, inr, subst, ⊎_elim}
use Rattle.prl_core.specs.Cores.{CoreView, opened_on}
use Rattle.prl_cores.specs.declared.texts.CoresFault.{CoresFault}
use Rattle.prl_cores.specs.declared.texts.CoresFault.TheVariants as unplaced
use Rattle.prl_cores.specs.Processors.{processors_of}
use Rattle.prl_plan.specs.Vocabulary.{IsHorizon, Placement, constants_on, task_at, IsPlan, PlanView, IsComplete, IsLegal, after_events, opening, IsSpread}
use Rattle.prl_plan.specs.declared.events.Event.{Event}
use Rattle.prl_plan.specs.declared.horizons.Horizon.{Horizon}
use Rattle.prl_replay.specs.Replays.{IsReplayFault, IsWholeText}
use Rattle.prl_replay.specs.declared.faults.ReplayFault.{ReplayFault}
use Rattle.prl_replay.specs.declared.faults.ReplayFault.TheVariants as causes
use Rattle.prl_schedules.specs.Vocabulary.{IsDispatched, task_names}
use Rattle.prl_table.specs.MakeFaults.{IsMade, IsMakeFault}
use Rattle.prl_table.specs.declared.making.MakeFault.{MakeFault}
use Rattle.prl_table.specs.declared.making.MakeFault.TheVariants as making
use Rattle.prl_tables.specs.Vocabulary.{IsFault, IsGood, entries_of}
use Rattle.prl_tables.specs.declared.reading.TableFault.{TableFault}
use Rattle.prl_overlaps.specs.declared.entries.Entry.{Entry}
use Rattle.prl_tables.specs.declared.reading.TableFault.TheVariants as checking
use Rattle.prl_stages.specs.declared.faults.CoresRefusal.TheVariants as bad_cores
use Rattle.prl_stages.specs.declared.faults.Fault.TheVariants as faults
use Rattle.prl_stages.specs.declared.faults.InputFile.TheVariants as parts
use Rattle.prl_stages.specs.Vocabulary.{MakeRefusal, ScheduleRefusal, TableRefusal, Given, text_of, HasPlacement, Lists, HasPlan, schedule_refusal, HasHorizon, Holds, IsDecided, IsTableFault}
use Rattle.prl_stages.specs.Vocabulary.{make_refusal, table_refusal}
use Rattle.prl_stages.specs.declared.faults.MakeRefusal.TheVariants as bad_making
use Rattle.prl_stages.specs.declared.faults.ScheduleRefusal.TheVariants as bad_schedule
use Rattle.prl_stages.specs.declared.faults.TableRefusal.TheVariants as bad_table
use Rattle.prl_stages.specs.declared.stages.Stage.TheVariants as stages

-- the laws of the crates below
pub record Laws : Type 0 where
  pub made : (plan : PlanView) → IsPlan plan → ((entries : List Entry) × IsMade plan entries) ⊎ ((fault : MakeFault) × (fault ≢ making.Memory) × IsMakeFault plan fault)
  pub read : (hyper : ℕ) (text : List ℕ) → ((entries : List Entry) × (entries_of hyper text ≡ Ok entries))
      ⊎ ((fault : TableFault) × (fault ≢ checking.Memory) × (entries_of hyper text ≡ Err fault))
  pub checked : (plan : PlanView) → IsPlan plan → (entries : List Entry) → IsGood plan entries ⊎ ((fault : TableFault) × (fault ≢ checking.Memory) × IsFault plan entries fault)
  pub placements : (plan : PlanView) → IsPlan plan → (text : List ℕ) → ((placement : Placement) × (processors_of (task_names plan) text ≡ Ok placement.processors) × IsSpread plan placement)
      ⊎ ((fault : CoresFault) × (fault ≢ unplaced.Memory) × (processors_of (task_names plan) text ≡ Err fault))
  pub replays : (core : CoreView) (text : List ℕ) → IsWholeText core text ⊎ ((fault : ReplayFault) × IsReplayFault core text fault)
  pub dispatched : (plan : PlanView) (horizon : Horizon) (placement : Placement) → IsPlan plan → IsHorizon plan horizon → IsSpread plan placement
      → (events : List Event) × IsDispatched (constants_on plan placement horizon) (opening (constants_on plan placement horizon)) events
      × IsLegal (constants_on plan placement horizon) (opening (constants_on plan placement horizon)) events
      × IsComplete (constants_on plan placement horizon) (after_events (constants_on plan placement horizon) (opening (constants_on plan placement horizon)) events)

-- each fault but want of memory is a refusal's
made_refusal : (cause : MakeFault) → cause ≢ making.Memory → (r : MakeRefusal) × (make_refusal cause ≡ Some r)
made_refusal (making.TooFar tick) some = (bad_making.TooFar tick, refl)
made_refusal (making.Limit limit) some = (bad_making.Limit limit, refl)
made_refusal (making.Overload from to demand) some = (bad_making.Overload from to demand, refl)
made_refusal (making.Unsteady at first second) some = (bad_making.Unsteady at, refl)
made_refusal making.Memory some = absurd (some refl)

module _ (plan : PlanView) where
  told_refusal : (cause : TableFault) → cause ≢ checking.Memory → (r : TableRefusal) × (table_refusal plan.graph cause ≡ Some r)
  told_refusal (checking.Syntax line) some = (bad_table.Syntax line, refl)
  told_refusal (checking.Piece line) some = (bad_table.Piece line, refl)
  told_refusal (checking.Units task job) some = (bad_table.Units (task_at plan.graph task.0).name job, refl)
  told_refusal (checking.Clash first second) some = (bad_table.Clash first second, refl)
  told_refusal (checking.Order edge job) some = (bad_table.Order edge job, refl)
  told_refusal checking.Memory some = absurd (some refl)

  run_refusal : (core : CoreView) (text : List ℕ) (cause : ReplayFault) → IsReplayFault core text cause → (r : ScheduleRefusal) × (schedule_refusal plan.graph cause ≡ Some r)
  run_refusal core text (causes.Syntax line) is = (bad_schedule.Syntax line, refl)
  run_refusal core text (causes.Illegal line rule) is = (bad_schedule.Illegal line rule, refl)
  run_refusal core text (causes.Unfinished task job) is = (bad_schedule.Unfinished (task_at plan.graph task.0).name job, refl)
  run_refusal core text causes.Memory is = absurd is.2

module _ (law : Laws) (g : Given) where
  pub made_decided : Holds g stages.Cells → IsDecided g stages.Made
  made_decided (plan, has) = ⊎_elim
      (λ (x : (entries : List Entry) × IsMade plan entries). inl (plan, x.0, record { has_plan = has; made = x.1 }))
      (λ (x : (fault : MakeFault) × (fault ≢ making.Memory) × IsMakeFault plan fault).
      (let r = made_refusal x.0 x.1 in
      inr (faults.Made r.0, (plan, has, x.0, x.2, r.0, r.1, refl))))
      (law.made plan has.is_plan)

  module _ (plan : PlanView) (has : HasPlan g plan) where
    told : (fault : TableFault) → fault ≢ checking.Memory → IsTableFault plan (text_of g parts.Table) fault → IsDecided g stages.Table
    told fault some is = let r = told_refusal plan fault some in inr (faults.Table r.0, (plan, has, fault, is, r.0, r.1, refl))

    checked_by : (entries : List Entry) → entries_of plan.graph.hyper (text_of g parts.Table) ≡ Ok entries
        → IsGood plan entries ⊎ ((fault : TableFault) × (fault ≢ checking.Memory) × IsFault plan entries fault) → IsDecided g stages.Table
    checked_by entries read = ⊎_elim
        (λ (good : IsGood plan entries). inl (plan, entries, record { has_plan = has; read = read; good = good }))
        (λ (x : (fault : TableFault) × (fault ≢ checking.Memory) × IsFault plan entries fault). told x.0 x.1 (inr (entries, read, x.2)))

    table_by : ((entries : List Entry) × (entries_of plan.graph.hyper (text_of g parts.Table) ≡ Ok entries))
        ⊎ ((fault : TableFault) × (fault ≢ checking.Memory) × (entries_of plan.graph.hyper (text_of g parts.Table) ≡ Err fault)) → IsDecided g stages.Table
    table_by = ⊎_elim
        (λ (x : (entries : List Entry) × (entries_of plan.graph.hyper (text_of g parts.Table) ≡ Ok entries)). checked_by x.0 x.1 (law.checked plan has.is_plan x.0))
        (λ (x : (fault : TableFault) × (fault ≢ checking.Memory) × (entries_of plan.graph.hyper (text_of g parts.Table) ≡ Err fault)). told x.0 x.1 (inl x.2))

    unplaced_by : (fault : CoresFault) → fault ≢ unplaced.Memory → processors_of (task_names plan) (text_of g parts.Cores) ≡ Err fault → IsDecided g stages.Cores
    unplaced_by (unplaced.Syntax line) some is =
        inr (faults.Cores (bad_cores.Syntax line), (plan, has, unplaced.Syntax line, is, bad_cores.Syntax line, refl, refl))
    unplaced_by (unplaced.Missing task) some is =
        inr (
          faults.Cores (bad_cores.Missing (task_at plan.graph task.0).name),
          (plan, has, unplaced.Missing task, is, bad_cores.Missing (task_at plan.graph task.0).name, refl, refl),
        )
    unplaced_by unplaced.Memory some is = absurd (some refl)

    cores_by : ((placement : Placement) × (processors_of (task_names plan) (text_of g parts.Cores) ≡ Ok placement.processors) × IsSpread plan placement)
        ⊎ ((fault : CoresFault) × (fault ≢ unplaced.Memory) × (processors_of (task_names plan) (text_of g parts.Cores) ≡ Err fault)) → IsDecided g stages.Cores
    cores_by = ⊎_elim
        (λ (x : (placement : Placement) × (processors_of (task_names plan) (text_of g parts.Cores) ≡ Ok placement.processors) × IsSpread plan placement).
        inl (plan, x.0, record { has_plan = has; read = x.1; spread = x.2 }))
        (λ (x : (fault : CoresFault) × (fault ≢ unplaced.Memory) × (processors_of (task_names plan) (text_of g parts.Cores) ≡ Err fault)). unplaced_by x.0 x.1 x.2)

  pub table_decided : Holds g stages.Cells → IsDecided g stages.Table
  table_decided (plan, has) = table_by plan has (law.read plan.graph.hyper (text_of g parts.Table))

  pub cores_decided : Holds g stages.Cells → IsDecided g stages.Cores
  cores_decided (plan, has) = cores_by plan has (law.placements plan has.is_plan (text_of g parts.Cores))

  module _ (plan : PlanView) (placement : Placement) (horizon : Horizon) (has : HasHorizon g plan horizon) (placed : HasPlacement g plan placement) where
    placed_refused : g.listed ≡ true → (cause : ReplayFault) → IsReplayFault (opened_on plan placement [] [] horizon) (text_of g parts.Schedule) cause → IsDecided g stages.Placed
    placed_refused listed cause is =
        let r = run_refusal plan (opened_on plan placement [] [] horizon) (text_of g parts.Schedule) cause is in
        inr (
          faults.Schedule r.0,
          record {
            plan = plan;
            placement = placement;
            horizon = horizon;
            has_horizon = has;
            has_placement = placed;
            listed = listed;
            cause = cause;
            is_cause = is;
            refusal = r.0;
            told = r.1;
            is = refl;
          },
        )

    ran : (events : List Event) → Lists g.listed g plan placement horizon events
        → IsLegal (constants_on plan placement horizon) (opening (constants_on plan placement horizon)) events
        → IsComplete (constants_on plan placement horizon) (after_events (constants_on plan placement horizon) (opening (constants_on plan placement horizon)) events)
        → IsDecided g stages.Placed
    ran events listed legal complete = inl (
      plan,
      placement,
      horizon,
      record {
        has_horizon = has;
        has_placement = placed;
        events = events;
        listed = listed;
        legal = legal;
        complete = complete;
      },
    )

    as_listed : (named : Bool) → g.listed ≡ named → IsDecided g stages.Placed
    as_listed true is = ⊎_elim
        (λ (x : IsWholeText (opened_on plan placement [] [] horizon) (text_of g parts.Schedule)).
        ran x.0 (subst (λ (b : Bool). Lists b g plan placement horizon x.0) (sym is) x.1) x.2 x.3)
        (λ (x : (fault : ReplayFault) × IsReplayFault (opened_on plan placement [] [] horizon) (text_of g parts.Schedule) fault). placed_refused is x.0 x.1)
        (law.replays (opened_on plan placement [] [] horizon) (text_of g parts.Schedule))
    as_listed false is =
        let x = law.dispatched plan horizon placement placed.has_plan.is_plan has.is_horizon placed.spread in
        ran x.0 (subst (λ (b : Bool). Lists b g plan placement horizon x.0) (sym is) x.1) x.2 x.3

    pub placed_there : IsDecided g stages.Placed
    placed_there = as_listed g.listed refl

  -- the horizon and the processors are those of one plan
  pub placed_decided : ((a b : PlanView) → HasPlan g a → HasPlan g b → a ≡ b) → Holds g stages.Horizon → Holds g stages.Cores → IsDecided g stages.Placed
  placed_decided one (plan, horizon, has) (other, placement, placed) =
      placed_there plan placement horizon has (subst (λ (x : PlanView). HasPlacement g x placement) (one other plan placed.has_plan has.has_plan) placed)
