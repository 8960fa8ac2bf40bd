-- What a closed board shows is what the machine of its plan has.
use Rattle.prl_base.proofs.Standard.{◌≡◌, ◌<◌, ◌≤◌, ◌↔◌, ℕ, zero, suc, List, length, get_or, Option, Some, refl, sym, ◌∙◌, ap, subst, arith, slice_get, pos, unwrap_or, get_or_default}
use Rattle.prl_base.proofs.Standard.{slice_get-get_or}
use Rattle.prl_base.specs.Vocabulary.{IsName, type_of}
use Rattle.prl_base.specs.declared.values.Value.{Value}
use Rattle.prl_base.specs.declared.values.Value.TheVariants as values
use Rattle.prl_board.specs.Closings.{AreOutputs as AreRead, ClosedView, Drives, IsClosed, IsLastState}
use Rattle.prl_core.specs.Cores.{AreOutputs, CoreView}
use Rattle.prl_flow.specs.Actuators.{AreUpTo}
use Rattle.prl_flow.specs.declared.programs.OutFlow.{OutFlow}
use Rattle.prl_flow.proofs.Lists.{element_at}
use Rattle.prl_plan.specs.Vocabulary.{IsTaskName, is_actuator, no_task, task_at, job_count, IsHorizonJob, IsPlan, PlanView, edge_at, no_edge, IsComplete, ExecState}
use Rattle.prl_plan.specs.declared.graphs.Kind.{Kind}
use Rattle.prl_plan.specs.declared.graphs.Task.{Task}
use Rattle.prl_plan.specs.declared.graphs.Kind.TheVariants as kinds
use Rattle.prl_plan.proofs.RoundPeriods.{task_is}
use Rattle.prl_replay.specs.Replays.{AddsFlow, AreFlowsBelow}
use Rattle.prl_replay.proofs.Ends.{ended_all, flows_up_to}
use Rattle.prl_replay.specs.Shown.{AddsShown, AreShown, AreShownBelow, core_in}
use Rattle.prl_rule.specs.Known.{job_values_of, run_of, values_of}
use Rattle.prl_rule.specs.declared.views.Constants.{Constants}
use Rattle.prl_seats.specs.JobSeats.{JobSeatView}
use Rattle.prl_values.specs.JobValues.{reads_of_job, value_on}
use Rattle.prl_values.proofs.PortReads.{read_at_port}

-- what an actuator's jobs have read, by the jobs' reads
reads_are : (k : Constants) (i jobs : ℕ) (column : List Value) → AreRead k i jobs column → (n : ℕ) → n < jobs
    → slice_get column n ≡ slice_get (reads_of_job k.plan.graph (job_values_of k) i n) 0
unfolding values_of
reads_are k i jobs column are n below = are.each n below

module _ (k : Constants) (closed : ClosedView) (s : ExecState) (known : closed.constants ≡ Some k) (is_plan : IsPlan k.plan)
    (is_closed : IsClosed k closed.words closed.seats) (last : IsLastState k closed.words closed.seats s)
    (counted : (i n : ℕ) → i < length k.plan.graph.tasks → 0 < (task_at k.plan.graph i).clock.period →
    IsHorizonJob k.plan.graph k.horizon.until i n ↔ (n < job_count (task_at k.plan.graph i) k.horizon.until))
    (typed : (e n : ℕ) → e < length k.plan.graph.edges → IsHorizonJob k.plan.graph k.horizon.until (edge_at k.plan.graph e).to.0 n →
    (value : Value) × (value_on (job_values_of k) (edge_at k.plan.graph e) n ≡ Some value) × (type_of value ≡ (edge_at k.plan.graph e).ty)) where
  abbrev core : CoreView
  core = core_in k s

  seat_of : (i : ℕ) → i < length k.plan.graph.tasks → (x : JobSeatView) × (slice_get closed.seats i ≡ Some x)
  seat_of i inside = let wide = is_closed.tasks in element_at closed.seats i (omega (arith, wide, inside))

  ended_is : (i : ℕ) (x : JobSeatView) → slice_get closed.seats i ≡ Some x → x.job ≡ get_or s.ended i 0
  ended_is i x at = (last.each i x at).0

  few : (i : ℕ) → i < length k.plan.graph.tasks → get_or s.ended i 0 ≤ (run_of k).jobs i
  few i inside =
      let x = seat_of i inside in
      let most = (is_closed.each i x.0 x.1).1 in
      let same = ended_is i x.0 x.1 in
      omega (arith, most, same)

  outputs_are : (i a : ℕ) → i < length k.plan.graph.tasks → (task_at k.plan.graph i).kind ≡ kinds.Actuator a → (x : JobSeatView) → slice_get closed.seats i ≡ Some x
      → (column : List Value) → AreRead k i x.job column → AreOutputs core i column
  outputs_are i a inside kind x at column are = record { ended = are.count ∙ ended_is i x at; each = each }
    where
      each : (e m : ℕ) → e < length k.plan.graph.edges → (edge_at k.plan.graph e).to.0 ≡ i → m < get_or s.ended i 0
          → slice_get column m ≡ value_on (job_values_of k) (edge_at k.plan.graph e) m
      each e m there to below =
          let same = ended_is i x at in
          let most = few i inside in
          let stands = slice_get-get_or k.plan.graph.edges e no_edge there in
          let only : (edge_at k.plan.graph e).port ≡ 0 = (is_plan.graph.actuators i inside (ap is_actuator kind)).only e (edge_at k.plan.graph e) stands to in
          let period = (task_is k.plan.graph is_plan.graph i inside).period in
          let job : IsHorizonJob k.plan.graph k.horizon.until i m = (counted i m inside (omega (arith, period.0))).1 (omega (arith, below, most)) in
          let has = typed e m there (subst (λ (j : ℕ). IsHorizonJob k.plan.graph k.horizon.until j m) (sym to) job) in
          reads_are k i x.job column are m (omega (arith, below, same))
          ∙ ap (slice_get (reads_of_job k.plan.graph (job_values_of k) i m)) (sym only)
          ∙ read_at_port (job_values_of k) i m k.plan.graph.edges is_plan.graph.order e (edge_at k.plan.graph e) stands to
          ∙ ap (λ (o : Option Value). Some (unwrap_or o (values.Int (pos 0)))) has.1 ∙ sym has.1

  added : (i : ℕ) → i < length k.plan.graph.tasks → (kind : Kind) → (task_at k.plan.graph i).kind ≡ kind → (before outs : List OutFlow)
      → AddsShown closed k.plan.graph i kind before outs → AddsFlow core i kind before outs
  added i inside (kinds.Sensor a) is before outs adds = adds
  added i inside (kinds.Node a) is before outs adds = adds
  added i inside (kinds.Actuator a) is before outs adds =
      let x = seat_of i inside in (
        adds.0,
        adds.1,
        record { name = adds.2.name; clock = adds.2.clock; values = outputs_are i a inside is x.0 x.1 adds.0.values (adds.2.values k x.0 known x.1) },
      )

  below : (n : ℕ) → n ≤ length k.plan.graph.tasks → (outs : List OutFlow) → AreShownBelow closed k.plan.graph n outs → AreFlowsBelow core n outs
  below zero within outs are = are
  below (suc i) within outs are = (
    are.0,
    below i (omega (arith, within)) are.0 are.1,
    added i (omega (arith, within)) (task_at k.plan.graph i).kind refl are.0 outs are.2,
  )

  pub flows_below : (outs : List OutFlow) → AreShown closed k.plan.graph outs → AreFlowsBelow core (length k.plan.graph.tasks) outs
  flows_below outs are = below (length k.plan.graph.tasks) (omega arith) outs are

  pub ended_up_to : (outs : List OutFlow) → AreShown closed k.plan.graph outs → IsComplete (run_of k) s → AreUpTo k.horizon.until outs
  ended_up_to outs are complete = flows_up_to core is_plan counted (ended_all core complete few) outs (flows_below outs are)

-- a task of a graph, as it is read
pub task_read : (items tasks : List Task) (i : ℕ) (task : Task) → items ≡ tasks → i < length tasks → task ≡ get_or items i task → task ≡ get_or tasks i no_task
task_read items tasks i task same inside is = is ∙ ap (λ (xs : List Task). get_or xs i task) same ∙ get_or_default tasks i task no_task inside

-- an actuator's task has a name
pub actuator_name : (kind : Kind) (a : ℕ) (name : List ℕ) → kind ≡ kinds.Actuator a → IsTaskName kind name → IsName name
actuator_name kind a name is named = subst (λ (x : Kind). IsTaskName x name) is named

-- it is the task of its actuator on the board
pub drives_in : (k : Constants) (plan : PlanView) (i a : ℕ) → k.plan ≡ plan → i < length plan.graph.tasks → (task_at plan.graph i).kind ≡ kinds.Actuator a → Drives k i a
drives_in k plan i a same inside kind = record {
  task = subst (λ (p : PlanView). i < length p.graph.tasks) (sym same) inside;
  kind = subst (λ (p : PlanView). (task_at p.graph i).kind ≡ kinds.Actuator a) (sym same) kind;
}
