-- What the machine's columns and machines are by instance.
use Rattle.prl_base.proofs.Standard.{◌≡◌, ◌+◌, ◌<◌, ◌≤◌, ◌↔◌, ◌++◌, ℕ, zero, suc, Bool, List, [], ◌∷◌, length, length-append, inl, inr, get_or, take, Option, Some, None, refl, sym, ◌∙◌, ap, subst}
use Rattle.prl_base.proofs.Standard.{arith, slice_get, pos, unwrap_or, MatchOption, cases_eq, length-take-le, slice_get-get_or, slice_get_read}
use Rattle.std.specs.declared.vec.Vec.{Vec}
use Rattle.std.specs.declared.alloc.Global.{Global}
use Rattle.prl_base.specs.Values.{type_of}
use Rattle.prl_base.specs.declared.values.Value.{Value}
use Rattle.prl_base.specs.declared.values.Value.TheVariants as values
use Rattle.prl_body.specs.Machines.{MachineState}
use Rattle.prl_body.specs.declared.bodies.CheckedBody.{CheckedBody}
use Rattle.prl_flow.specs.Applications.{registers_before}
use Rattle.prl_flow.proofs.Lists.{slice_get_push, slice_get_append_left}
use Rattle.prl_plan.specs.Vocabulary.{is_actuator, task_at, job_count, IsHorizonJob, IsPlan, edge_at, no_edge, IsSound}
use Rattle.prl_plan.specs.declared.graphs.Edge.{Edge}
use Rattle.prl_plan.specs.declared.graphs.Kind.TheVariants as kinds
use Rattle.prl_plan.proofs.RoundPeriods.{task_is}
use Rattle.prl_track.specs.Machine.{Drives}
use Rattle.prl_track.proofs.Places.{slice_get_take}
use Rattle.prl_values.specs.JobValues.{value_on, read_on, reads_of_job, body_of_task}
use Rattle.prl_values.specs.Workers.{HasMachine, HasNoMachine, IsWork, once}
use Rattle.prl_values.specs.declared.workers.Work.{Work}
use Rattle.prl_values.specs.declared.workers.Worker.{Worker}
use Rattle.prl_values.specs.declared.workers.Work.TheVariants as works
use Rattle.prl_core.specs.Vocabulary.{CoreView, constants, values_of, AreOutputs, IsMachineOf, IsNoNode, IsKept, HasCoreLaws}
use Rattle.prl_values.proofs.PortReads.{read_at_port}

module _ (core : CoreView) (is_plan : IsPlan core.plan) (sound : IsSound (constants core) core.state) where
  -- the column of an actuator task up to its ended jobs
  column_is_output : (i k : ℕ) → i < length core.plan.graph.tasks → (task_at core.plan.graph i).kind ≡ kinds.Actuator k → (column : List Value) (steps : ℕ) →
      get_or core.state.ended i 0 ≤ steps → length column ≡ job_count (task_at core.plan.graph i) core.horizon.until →
      ((m : ℕ) → m < steps → slice_get column m ≡ slice_get (reads_of_job core.plan.graph (values_of core) i m) 0) →
      ((i n : ℕ) → i < length core.plan.graph.tasks → 0 < (task_at core.plan.graph i).clock.period →
      IsHorizonJob core.plan.graph core.horizon.until i n ↔ (n < job_count (task_at core.plan.graph i) core.horizon.until)) →
      ((e n : ℕ) → e < length core.plan.graph.edges → IsHorizonJob core.plan.graph core.horizon.until (edge_at core.plan.graph e).to.0 n →
      (value : Value) × (value_on (values_of core) (edge_at core.plan.graph e) n ≡ Some value) × (type_of value ≡ (edge_at core.plan.graph e).ty)) →
      AreOutputs core i (take (get_or core.state.ended i 0) column)
  column_is_output i k inside kind column steps made long told counted typed = record {
    ended = length-take-le (get_or core.state.ended i 0) column within;
    each = each;
  }
    where
      all : get_or core.state.ended i 0 ≤ job_count (task_at core.plan.graph i) core.horizon.until
      all = sound.tagged.counted i inside

      within : get_or core.state.ended i 0 ≤ length column
      within = (let a = all in omega (arith, a, long))

      each : (e m : ℕ) → e < length core.plan.graph.edges → (edge_at core.plan.graph e).to.0 ≡ i → m < get_or core.state.ended i 0 →
          slice_get (take (get_or core.state.ended i 0) column) m ≡ value_on (values_of core) (edge_at core.plan.graph e) m
      each e m there to below =
          let stands = slice_get-get_or core.plan.graph.edges e no_edge there in
          let only : (edge_at core.plan.graph e).port ≡ 0 = (is_plan.graph.actuators i inside (ap is_actuator kind)).only e (edge_at core.plan.graph e) stands to in
          let period = (task_is core.plan.graph is_plan.graph i inside).period in
          let a = all in
          let job : IsHorizonJob core.plan.graph core.horizon.until i m = (counted i m inside (omega (arith, period.0))).1 (omega (arith, below, a)) in
          let has = typed e m there (subst (λ (j : ℕ). IsHorizonJob core.plan.graph core.horizon.until j m) (sym to) job) in
          slice_get_take column (get_or core.state.ended i 0) m below ∙ told m (omega (arith, below, made))
          ∙ ap (slice_get (reads_of_job core.plan.graph (values_of core) i m)) (sym only)
          ∙ read_at_port (values_of core) i m core.plan.graph.edges is_plan.graph.order e (edge_at core.plan.graph e) stands to
          ∙ ap (λ (o : Option Value). Some (unwrap_or o (values.Int (pos 0)))) has.1 ∙ sym has.1

-- the list of the first values of a function
abbrev values_up_to : (ℕ → Value) → ℕ → List Value
values_up_to f zero = []
values_up_to f (suc n) = values_up_to f n ++ f n ∷ []

values_counted : (f : ℕ → Value) (n : ℕ) → length (values_up_to f n) ≡ n
values_counted f zero = refl
values_counted f (suc n) = (let l = length-append (values_up_to f n) (f n ∷ []) in let rest = values_counted f n in omega (arith, l, rest))

value_at_place : (f : ℕ → Value) (n m : ℕ) → m < n → slice_get (values_up_to f n) m ≡ Some (f m)
value_at_place f zero m below = absurd (omega (arith, below))
value_at_place f (suc n) m below =
    let count = values_counted f n in
    elim (cases_eq m n) [
      | inl last ↦
          (ap (slice_get (values_up_to f n ++ f n ∷ [])) (omega (arith, last, count)) ∙ slice_get_push (values_up_to f n) (f n) ∙ ap (λ (k : ℕ). Some (f k)) (sym last))
      | inr other ↦ slice_get_append_left (values_up_to f n) (f n ∷ []) m (omega (arith, below, other, count)) ∙ value_at_place f n m (omega (arith, below, other))
    ]

-- the ended jobs of an actuator's task have their outputs
pub outputs_there : (core : CoreView) (is_plan : IsPlan core.plan) (sound : IsSound (constants core) core.state) (laws : HasCoreLaws core) (i k : ℕ) →
    i < length core.plan.graph.tasks → (task_at core.plan.graph i).kind ≡ kinds.Actuator k → (values : List Value) × AreOutputs core i values
outputs_there core is_plan sound laws i k inside kind =
    let device = is_plan.graph.actuators i inside (ap is_actuator kind) in
    let e : ℕ = device.one.0 in
    let edge : Edge = device.one.1 in
    let jobs : ℕ = job_count (task_at core.plan.graph i) core.horizon.until in
    let only : edge.port ≡ 0 = device.only device.one.0 device.one.1 device.one.2 device.one.3 in
    let ended = sound.tagged.counted i inside in (
      take (get_or core.state.ended i 0) (values_up_to (read_on (values_of core) device.one.1) (job_count (task_at core.plan.graph i) core.horizon.until)),
      column_is_output core is_plan sound i k inside kind (values_up_to (read_on (values_of core) device.one.1) (job_count (task_at core.plan.graph i) core.horizon.until))
          (job_count (task_at core.plan.graph i) core.horizon.until) ended
          (values_counted (read_on (values_of core) device.one.1) (job_count (task_at core.plan.graph i) core.horizon.until))
          (λ m below. value_at_place (read_on (values_of core) device.one.1) (job_count (task_at core.plan.graph i) core.horizon.until) m below
          ∙ sym (read_at_port (values_of core) i m core.plan.graph.edges is_plan.graph.order device.one.0 device.one.1 device.one.2 device.one.3)
          ∙ ap (slice_get (reads_of_job core.plan.graph (values_of core) i m)) only)
          laws.counted laws.edges,
    )

module _ (core : CoreView) (halves : List Value) (workers : List Worker) (kept : IsKept core halves workers) where
  -- the machine of a node task after its steps
  machine_is_of : (i : ℕ) (worker : Worker) → slice_get workers i ≡ Some worker → (body : CheckedBody) (machine : MachineState) →
      ((k : ℕ) × ((task_at core.plan.graph i).kind ≡ kinds.Node k)) → body_of_task core.bodies (task_at core.plan.graph i) ≡ Some body →
      machine ≡ record {
        registers = registers_before body (reads_of_job core.plan.graph (values_of core) i) (get_or core.state.ended i 0 + once worker.ran);
        steps = get_or core.state.ended i 0 + once worker.ran;
      } → IsMachineOf core i machine
  machine_is_of i worker at body machine node named is =
      let ran = (kept.tasks.each i worker at).ran in
      let count = ap (λ (b : Bool). get_or core.state.ended i 0 + once b) ran in
      record {
        body = body;
        named = named;
        node = node;
        steps = ap (λ (m : MachineState). m.steps) is ∙ count;
        registers = ap (λ (m : MachineState). m.registers) is ∙ ap (registers_before body (reads_of_job core.plan.graph (values_of core) i)) count;
      }

  -- the work of a task that is read
  pub work_at : (i : ℕ) → i < length core.plan.graph.tasks → (worker : Worker) → worker ≡ get_or workers i worker → (work : Work) → worker.work ≡ work →
      (slice_get workers i ≡ Some worker)
      × IsWork core.plan core.bodies core.horizon.until (values_of core) i (get_or core.state.ended i 0 + once worker.ran) work
  work_at i inside worker is work its =
      let at = slice_get_read workers (length workers) i worker refl (let l = kept.tasks.tasks in omega (arith, l, inside)) is in (
        at,
        subst (λ (w : Work). IsWork core.plan core.bodies core.horizon.until (values_of core) i (get_or core.state.ended i 0 + once worker.ran) w) its (kept.tasks.each i worker at).work,
      )

sensor_no_node : (core : CoreView) (i k : ℕ) → (task_at core.plan.graph i).kind ≡ kinds.Sensor k → IsNoNode core i
sensor_no_node core i k is other node = absurd (let e : kinds.Sensor k ≡ kinds.Node other = sym is ∙ node in cc)

actuator_no_node : (core : CoreView) (i k : ℕ) → (task_at core.plan.graph i).kind ≡ kinds.Actuator k → IsNoNode core i
actuator_no_node core i k is other node = absurd (let e : kinds.Actuator k ≡ kinds.Node other = sym is ∙ node in cc)

sensor_no_actuator : (core : CoreView) (i k other : ℕ) → (task_at core.plan.graph i).kind ≡ kinds.Sensor k → (task_at core.plan.graph i).kind ≡ kinds.Actuator other → ⊥
sensor_no_actuator core i k other is drives = absurd (let e : kinds.Sensor k ≡ kinds.Actuator other = sym is ∙ drives in cc)

node_no_actuator : (core : CoreView) (i k other : ℕ) → (task_at core.plan.graph i).kind ≡ kinds.Node k → (task_at core.plan.graph i).kind ≡ kinds.Actuator other → ⊥
node_no_actuator core i k other is drives = absurd (let e : kinds.Node k ≡ kinds.Actuator other = sym is ∙ drives in cc)

abbrev pub IsColumn : Work → Type 0
IsColumn (works.Sensor device) = ⊥
IsColumn (works.Node word own) = ⊥
IsColumn (works.Actuator column) = Unit {0}

-- a core of these fields, seen as v, where a task drives an actuator
module _ (core v : CoreView) (seen : core ≡ v) (halves : List Value) (workers : List Worker) (kept : IsKept core halves workers) (i k : ℕ) (told : Drives v.plan i k)
    (worker : Worker) (read : worker ≡ get_or workers i worker) where
  drives : Drives core.plan i k
  drives = subst (λ (w : CoreView). Drives w.plan i k) (sym seen) told

  driven_work : (work : Work) → worker.work ≡ work → IsWork core.plan core.bodies core.horizon.until (values_of core) i (get_or core.state.ended i 0 + once worker.ran) work
  driven_work work is = (work_at core halves workers kept i drives.0 worker read work is).1

  pub driven_column : (work : Work) → worker.work ≡ work → IsColumn work
  driven_column (works.Sensor device) is = sensor_no_actuator core i device k (driven_work (works.Sensor device) is) drives.1
  driven_column (works.Node word own) is = let its = driven_work (works.Node word own) is in node_no_actuator core i its.0.0 k its.0.1 drives.1
  driven_column (works.Actuator column) is = tt

  -- the front of its column that has the ended jobs
  module _ (column : Vec Value Global) (is : worker.work ≡ works.Actuator column) (ended : ℕ) (ended_is : ended ≡ get_or core.state.ended i 0) (xs : List Value) (xs_is : xs ≡ column.items) where
    pub driven_room : ended ≤ length xs
    driven_room =
        let all = kept.sound.tagged.counted i drives.0 in
        let room = (driven_work (works.Actuator column) is).1 in
        omega (arith, all, room, ap length xs_is, ended_is)

    pub driven_outputs : HasCoreLaws core → AreOutputs v i (take ended xs)
    driven_outputs laws =
        let its = driven_work (works.Actuator column) is in
        subst (λ (w : CoreView). AreOutputs w i (take ended xs)) seen
        (subst (λ (ys : List Value). AreOutputs core i (take ended ys)) (sym xs_is)
        (subst (λ (n : ℕ). AreOutputs core i (take n column.items)) (sym ended_is)
        (column_is_output core kept.plan kept.sound i k drives.0 drives.1 column.items (get_or core.state.ended i 0 + once worker.ran) (omega arith) its.1 its.2 laws.counted laws.edges)))

-- what follows from each case of an option
pub match_mono : {A : Type 0} (P Q : Type 0) (R S : A → Type 0) (o : Option A) → (P → Q) → ((a : A) → R a → S a) → MatchOption o P R → MatchOption o Q S
match_mono P Q R S None none some h = none h
match_mono P Q R S (Some a) none some h = some a h

module _ (core : CoreView) (halves : List Value) (workers : List Worker) (kept : IsKept core halves workers) (i : ℕ) (worker : Worker) (at : slice_get workers i ≡ Some worker) where
  -- the machine of a worker is its task's
  pub machine_told : (work : Work) → IsWork core.plan core.bodies core.horizon.until (values_of core) i (get_or core.state.ended i 0 + once worker.ran) work →
      (machine : MachineState) → HasMachine work machine → IsMachineOf core i machine
  machine_told (works.Sensor k) is machine has = absurd has
  machine_told (works.Node word own) is machine has =
      machine_is_of core halves workers kept i worker at is.2.0 machine is.0 is.2.1 (has ∙ is.2.2)
  machine_told (works.Actuator column) is machine has = absurd has

  -- a worker without one is that of no node task
  pub no_machine_told : (work : Work) → IsWork core.plan core.bodies core.horizon.until (values_of core) i (get_or core.state.ended i 0 + once worker.ran) work →
      HasNoMachine work → IsNoNode core i
  no_machine_told (works.Sensor k) is none = sensor_no_node core i k is
  no_machine_told (works.Node word own) is none = absurd none
  no_machine_told (works.Actuator column) is none = actuator_no_node core i is.0.0 is.0.1
