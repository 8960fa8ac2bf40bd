-- What holds of a whole run: its reads are of the plan's tasks, and its flows are up to the horizon's date.
use Rattle.prl_base.proofs.Standard.{◌≡◌, ◌<◌, ◌≤◌, ◌%◌, ◌^◌, ◌++◌, ◌↔◌, ℕ, zero, suc, List, [], ◌∷◌, length, get_or, inl, inr, sym, ◌∙◌, subst, arith, All, filter, cases_lt, ints, All-nil, All-cons}
use Rattle.prl_base.proofs.Standard.{All-append, All-same, All-filter}
use Rattle.prl_base.specs.Clocks.{IsClock, date_at}
use Rattle.prl_base.specs.declared.numbers.CellNo.{CellNo}
use Rattle.prl_base.specs.declared.numbers.EdgeNo.{EdgeNo}
use Rattle.prl_base.specs.declared.numbers.TaskNo.{TaskNo}
use Rattle.prl_base.specs.declared.operators.Clock.{Clock}
use Rattle.prl_flow.specs.Vocabulary.{AreUpTo, IsUpTo}
use Rattle.prl_flow.specs.declared.programs.OutFlow.{OutFlow}
use Rattle.prl_plan.specs.Vocabulary.{task_at, job_count, IsHorizonJob, IsPlan, IsLegal, IsComplete, KeepsLegal, first_unfinished, next_action}
use Rattle.prl_plan.specs.declared.events.Action.{Action}
use Rattle.prl_plan.specs.declared.events.Event.{Event}
use Rattle.prl_plan.specs.declared.graphs.Kind.{Kind}
use Rattle.prl_plan.specs.declared.events.Action.TheVariants as actions
use Rattle.prl_plan.specs.declared.events.Event.TheVariants as events
use Rattle.prl_plan.specs.declared.graphs.Kind.TheVariants as kinds
use Rattle.prl_plan.proofs.RoundPeriods.{task_is}
use Rattle.prl_track.specs.Machine.{cell_no, sight_of_write}
use Rattle.prl_track.specs.declared.seen.Seen.{Seen}
use Rattle.prl_core.specs.Cores.{CoreView, constants, Tells, IsSightOf, IsSightOfRead}
use Rattle.prl_schedules.specs.ReadTexts.{ReadsOfTasks}
use Rattle.prl_replay.specs.Replays.{is_read, after, TellsAll, IsReplay, IsFlowOf, AddsFlow, AreFlowsBelow}

read_seen : (core : CoreView) (task : TaskNo) (n port : ℕ) (edge : EdgeNo) (m : ℕ) (cell : CellNo) (half : ℕ) (seen : Seen) → task.0 < length core.plan.graph.tasks →
    IsSightOfRead core task n port edge m cell half seen → ReadsOfTasks (length core.plan.graph.tasks) seen
read_seen core task n port edge m cell zero seen inside told = subst (ReadsOfTasks (length core.plan.graph.tasks)) (sym told) tt
read_seen core task n port edge m cell (suc half) seen inside told = subst (ReadsOfTasks (length core.plan.graph.tasks)) (sym told.1) inside

write_seen : (tasks : ℕ) (task : TaskNo) (n : ℕ) (edge : EdgeNo) (cell : CellNo) (half : ℕ) → ReadsOfTasks tasks (sight_of_write task n edge cell half)
write_seen tasks task n edge cell zero = tt
write_seen tasks task n edge cell (suc half) = tt

act_seen : (core : CoreView) (task : TaskNo) (n : ℕ) (action : Action) (seen : Seen) → task.0 < length core.plan.graph.tasks →
    IsSightOf core task n action seen → ReadsOfTasks (length core.plan.graph.tasks) seen
act_seen core task n (actions.ReadConst port value) seen inside told = subst (ReadsOfTasks (length core.plan.graph.tasks)) (sym told.0) inside
act_seen core task n (actions.Read port edge m slot) seen inside told = read_seen core task n port edge m (cell_no slot) (slot.0 % 2) seen inside told.1
act_seen core task n (actions.Write edge m slot) seen inside told =
    subst (ReadsOfTasks (length core.plan.graph.tasks)) (sym told.1) (write_seen (length core.plan.graph.tasks) task n edge (cell_no slot) (slot.0 % 2))
act_seen core task n actions.End seen inside told = subst (ReadsOfTasks (length core.plan.graph.tasks)) (sym told) tt

event_seen : (core : CoreView) (event : Event) (seen : Seen) → KeepsLegal (constants core) core.state event → Tells core event seen →
    ReadsOfTasks (length core.plan.graph.tasks) seen
event_seen core events.Tick seen keeps told = subst (ReadsOfTasks (length core.plan.graph.tasks)) (sym told) tt
event_seen core (events.Act task) seen keeps told =
    act_seen core task (first_unfinished core.state task.0) (next_action (constants core) core.state task.0) seen keeps.0.task told

all_seen : (core : CoreView) (list : List Event) (seens : List Seen) → IsLegal (constants core) core.state list → TellsAll core list seens →
    All (ReadsOfTasks (length core.plan.graph.tasks)) seens
all_seen core [] [] legal told = All-nil (ReadsOfTasks (length core.plan.graph.tasks))
all_seen core [] (seen ∷ seens) legal told = absurd told
all_seen core (event ∷ list) [] legal told = absurd told
all_seen core (event ∷ list) (seen ∷ seens) legal told =
    All-cons (ReadsOfTasks (length core.plan.graph.tasks)) seen seens (event_seen core event seen legal.0 told.0) (all_seen (after core event) list seens legal.1 told.1)

-- what a run reads is read by the plan's tasks
pub reads_of_tasks : (core : CoreView) (list : List Event) (reads : List Seen) → IsReplay core list reads → All (ReadsOfTasks (length core.plan.graph.tasks)) reads
reads_of_tasks core list reads is =
    All-same (ReadsOfTasks (length core.plan.graph.tasks)) reads (filter is_read is.seens) is.kept
    (All-filter is_read (ReadsOfTasks (length core.plan.graph.tasks)) is.seens (all_seen core list is.seens is.legal is.told))

module _ (core : CoreView) (is_plan : IsPlan core.plan)
    (counted : (i n : ℕ) → i < length core.plan.graph.tasks → 0 < (task_at core.plan.graph i).clock.period →
    IsHorizonJob core.plan.graph core.horizon.until i n ↔ (n < job_count (task_at core.plan.graph i) core.horizon.until))
    (all_ended : (i : ℕ) → i < length core.plan.graph.tasks → get_or core.state.ended i 0 ≡ job_count (task_at core.plan.graph i) core.horizon.until) where
  abbrev UpTo : OutFlow → Type 0
  UpTo out = IsClock out.clock × IsUpTo core.horizon.until out.clock out.values

  flow_up_to : (i : ℕ) → i < length core.plan.graph.tasks → (out : OutFlow) → IsFlowOf core i out → UpTo out
  flow_up_to i inside out is =
      subst (λ (c : Clock). IsClock c × IsUpTo core.horizon.until c out.values) (sym is.clock) (period.0, λ k. (into k, out_of k))
    where
      period : (1 ≤ (task_at core.plan.graph i).clock.period) × ((task_at core.plan.graph i).clock.period < 2 ^ 31)
      period = (task_is core.plan.graph is_plan.graph i inside).period

      count : length out.values ≡ job_count (task_at core.plan.graph i) core.horizon.until
      count = is.values.ended ∙ all_ended i inside

      into : (k : ℕ) → k < length out.values → date_at (task_at core.plan.graph i).clock k < core.horizon.until
      into k below =
          let p = period.0 in
          let l = count in
          let job = (counted i k inside (omega (arith, p))).1 (omega (arith, below, l)) in
          let early = job.early in
          omega (arith, ints, early)

      out_of : (k : ℕ) → date_at (task_at core.plan.graph i).clock k < core.horizon.until → k < length out.values
      out_of k early =
          let p = period.0 in
          let l = count in
          let job : IsHorizonJob core.plan.graph core.horizon.until i k = record { task = inside; early = omega (arith, ints, early) } in
          let below = (counted i k inside (omega (arith, p))).0 job in
          omega (arith, below, l)

  added_up_to : (i : ℕ) → i < length core.plan.graph.tasks → (kind : Kind) (before outs : List OutFlow) → AddsFlow core i kind before outs → All UpTo before → All UpTo outs
  added_up_to i inside (kinds.Sensor k) before outs same all = All-same UpTo outs before same all
  added_up_to i inside (kinds.Node k) before outs same all = All-same UpTo outs before same all
  added_up_to i inside (kinds.Actuator k) before outs adds all =
      All-same UpTo outs (before ++ adds.0 ∷ []) adds.1
      (All-append UpTo before (adds.0 ∷ []) all (All-cons UpTo adds.0 [] (flow_up_to i inside adds.0 adds.2) (All-nil UpTo)))

  flows_below_up_to : (k : ℕ) → k ≤ length core.plan.graph.tasks → (outs : List OutFlow) → AreFlowsBelow core k outs → All UpTo outs
  flows_below_up_to zero within outs are = All-same UpTo outs [] are (All-nil UpTo)
  flows_below_up_to (suc k) within outs are =
      added_up_to k (omega (arith, within)) (task_at core.plan.graph k).kind are.0 outs are.2 (flows_below_up_to k (omega (arith, within)) are.0 are.1)

  pub flows_up_to : (outs : List OutFlow) → AreFlowsBelow core (length core.plan.graph.tasks) outs → AreUpTo core.horizon.until outs
  flows_up_to outs are = flows_below_up_to (length core.plan.graph.tasks) (omega arith) outs are

-- at the end of a whole run each task has ended its horizon jobs
pub ended_all : (core : CoreView) → IsComplete (constants core) core.state → ((i : ℕ) → i < length core.plan.graph.tasks → get_or core.state.ended i 0 ≤ (constants core).jobs i) →
    (i : ℕ) → i < length core.plan.graph.tasks → get_or core.state.ended i 0 ≡ job_count (task_at core.plan.graph i) core.horizon.until
ended_all core complete within i inside =
    let most = within i inside in
    elim (cases_lt (get_or core.state.ended i 0) (job_count (task_at core.plan.graph i) core.horizon.until)) [
      | inl fewer ↦ absurd (let past = complete i (get_or core.state.ended i 0) inside fewer in omega (arith, past))
      | inr all ↦ omega (arith, most, all)
    ]
