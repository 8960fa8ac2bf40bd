-- The tasks of a flat program, one by one.
use Rattle.prl_base.proofs.Standard.{◌≡◌, ◌<◌, ◌≤◌, ◌+◌, ◌^◌, ℕ, zero, suc, List, [], ◌∷◌, ◌++◌, length, map, slice_get, Some, refl, sym, ◌∙◌, ap, subst, arith, ⊎_elim, slice_index_or, cases_lt}
use Rattle.prl_base.proofs.Standard.{slice_get_within, get_or_from_slice_get}
use Rattle.prl_base.specs.declared.numbers.FlowNo.{FlowNo}
use Rattle.prl_base.specs.declared.operators.Clock.{Clock}
use Rattle.prl_flow.specs.Vocabulary.{Device, FlatProgram, IsFlat, AreClocks, clock_of}
use Rattle.prl_flow.specs.declared.programs.App.{App}
use Rattle.prl_flow.proofs.Lists.{element_at, slice_get_append_left}
use Rattle.prl_plan.specs.Graphs.{AreNumbered}
use Rattle.prl_plan.specs.declared.graphs.Kind.{Kind}
use Rattle.prl_plan.specs.declared.graphs.Task.{Task}
use Rattle.prl_plan.specs.declared.graphs.Kind.TheVariants as kinds
use Rattle.prl_graph.specs.Vocabulary.{IsLeastDue, actuator_no, node_no, AreSmallClocks, AreTasks, IsTaskOf, actuator_task, application_clock, node_task, sensor, node, actuator, sensor_task}
use Rattle.prl_graph.specs.Vocabulary.{AreFirstTasks, HavePeriods, HaveSmallPeriods}
use Rattle.prl_graph.proofs.Lists.{append_right}

-- the kind of task `i`, by numbers of sensors and of applications
data KindAt (ins apps i : ℕ) (kind : Kind) : Type 0 where
  of_sensor : i < ins → kind ≡ kinds.Sensor i → KindAt ins apps i kind
  of_node : (j : ℕ) → i ≡ ins + j → j < apps → kind ≡ kinds.Node j → KindAt ins apps i kind
  of_actuator : (j : ℕ) → i ≡ ins + apps + j → kind ≡ kinds.Actuator j → KindAt ins apps i kind

kind_of_task : (p : FlatProgram) (clocks : List Clock) (i : ℕ) (task : Task) → IsTaskOf p clocks i task → KindAt (length p.ins) (length p.apps) i task.kind
kind_of_task p clocks i task (sensor is) = of_sensor (slice_get_within p.ins i is.flow is.found) (ap (λ (t : Task). t.kind) is.is)
kind_of_task p clocks i task (node is) = of_node is.number is.at (slice_get_within p.apps is.number is.app is.found) (ap (λ (t : Task). t.kind) is.is)
kind_of_task p clocks i task (actuator is) = of_actuator is.number is.at (ap (λ (t : Task). t.kind) is.is)

-- the numbers so far: sensors come first, and then applications
record ArePhases (ins apps s n a : ℕ) : Type 0 where
  sensors : s ≤ ins
  nodes : n ≤ apps
  before_nodes : s < ins → n ≡ 0
  before_actuators : s < ins → a ≡ 0
  after_nodes : n < apps → a ≡ 0

not_below : (m n : ℕ) → m ≤ n → (m < n → ⊥) → m ≡ n
not_below m n most low = ⊎_elim (λ less. absurd (low less)) (λ more. (let e : m ≡ n = omega arith in e)) (cases_lt m n)

numbered_by : (ins apps : ℕ) (k : Kind) (ks : List Kind)
    (go : (s n a : ℕ) → ArePhases ins apps s n a → ((m : ℕ) (x : Kind) → slice_get ks m ≡ Some x → KindAt ins apps (s + n + a + m) x) → AreNumbered s n a ks)
    (s n a : ℕ) → ArePhases ins apps s n a → KindAt ins apps (s + n + a) k
    → ((m : ℕ) (x : Kind) → slice_get ks m ≡ Some x → KindAt ins apps (s + n + a + 1 + m) x) → AreNumbered s n a (k ∷ ks)
numbered_by ins apps k ks go s n a phases (of_sensor below is) rest =
    let none = phases.before_nodes (omega arith) in
    let nothing = phases.before_actuators (omega arith) in
    let number : s + n + a ≡ s = omega arith in
    subst (λ x. AreNumbered s n a (x ∷ ks)) (sym is) (
      number,
      none,
      nothing,
      go (s + 1) n a (record {
        sensors = omega arith;
        nodes = phases.nodes;
        before_nodes = λ h. none;
        before_actuators = λ h. nothing;
        after_nodes = λ h. nothing;
      }) (λ m x h. let e : s + n + a + 1 + m ≡ s + 1 + n + a + m = omega arith in subst (λ i. KindAt ins apps i x) e (rest m x h)),
    )
numbered_by ins apps k ks go s n a phases (of_node j at below is) rest =
    let full : s ≡ ins = not_below s ins phases.sensors (λ h. (let x = phases.before_nodes h in let y = phases.before_actuators h in absurd (omega arith))) in
    let nothing : a ≡ 0 = phases.after_nodes (omega arith) in
    let number : j ≡ n = omega arith in
    subst (λ x. AreNumbered s n a (x ∷ ks)) (sym is) (
      number,
      nothing,
      go s (n + 1) a (record {
        sensors = phases.sensors;
        nodes = omega arith;
        before_nodes = λ h. absurd (omega arith);
        before_actuators = λ h. nothing;
        after_nodes = λ h. nothing;
      }) (λ m x h. let e : s + n + a + 1 + m ≡ s + (n + 1) + a + m = omega arith in subst (λ i. KindAt ins apps i x) e (rest m x h)),
    )
numbered_by ins apps k ks go s n a phases (of_actuator j at is) rest =
    let full : s ≡ ins = not_below s ins phases.sensors (λ h. (let x = phases.before_nodes h in let y = phases.before_actuators h in absurd (omega arith))) in
    let all : n ≡ apps = not_below n apps phases.nodes (λ h. (let x = phases.after_nodes h in absurd (omega arith))) in
    let number : j ≡ a = omega arith in
    subst (λ x. AreNumbered s n a (x ∷ ks)) (sym is) (
      number,
      go s n (a + 1) (record {
        sensors = phases.sensors;
        nodes = phases.nodes;
        before_nodes = λ h. absurd (omega arith);
        before_actuators = λ h. absurd (omega arith);
        after_nodes = λ h. absurd (omega arith);
      }) (λ m x h. let e : s + n + a + 1 + m ≡ s + n + (a + 1) + m = omega arith in subst (λ i. KindAt ins apps i x) e (rest m x h)),
    )

numbered : (ins apps : ℕ) (ks : List Kind) (s n a : ℕ) → ArePhases ins apps s n a
    → ((m : ℕ) (k : Kind) → slice_get ks m ≡ Some k → KindAt ins apps (s + n + a + m) k) → AreNumbered s n a ks
numbered ins apps [] s n a phases at = tt
numbered ins apps (k ∷ ks) s n a phases at =
    let first : s + n + a + 0 ≡ s + n + a = omega arith in
    numbered_by ins apps k ks (numbered ins apps ks) s n a phases (subst (λ i. KindAt ins apps i k) first (at zero k refl))
    (λ m x h. let e : s + n + a + suc m ≡ s + n + a + 1 + m = omega arith in subst (λ i. KindAt ins apps i x) e (at (suc m) x h))

mapped_kind : (tasks : List Task) (m : ℕ) (k : Kind) → slice_get (map (λ (t : Task). t.kind) tasks) m ≡ Some k → (task : Task) × (slice_get tasks m ≡ Some task) × (task.kind ≡ k)
mapped_kind [] m k h = cc
mapped_kind (t ∷ ts) zero k h = (t, refl, let e : t.kind ≡ k = cc in e)
mapped_kind (t ∷ ts) (suc m) k h = mapped_kind ts m k h

pub tasks_numbered : (p : FlatProgram) (clocks : List Clock) (tasks : List Task) → AreTasks p clocks tasks → AreNumbered 0 0 0 (map (λ (t : Task). t.kind) tasks)
tasks_numbered p clocks tasks are =
    numbered (length p.ins) (length p.apps) (map (λ (t : Task). t.kind) tasks) 0 0 0
    (record { sensors = omega arith; nodes = omega arith; before_nodes = λ h. refl; before_actuators = λ h. refl; after_nodes = λ h. refl })
    (λ m k h.
    (let at = mapped_kind tasks m k h in
    let e : m ≡ 0 + 0 + 0 + m = omega arith in
    subst (λ i. KindAt (length p.ins) (length p.apps) i k) e (subst (λ x. KindAt (length p.ins) (length p.apps) m x) at.2 (kind_of_task p clocks m at.0 (are.each m at.0 at.1)))))

-- the task of application `k`, and that of actuator `k`, by their numbers
pub node_found : (p : FlatProgram) (clocks : List Clock) (k : ℕ) (app : App) (task : Task) → slice_get p.apps k ≡ Some app → IsTaskOf p clocks (node_no p k) task
    → (due : ℕ) × IsLeastDue p k (application_clock clocks app).period due × (task ≡ node_task clocks k app due)
node_found p clocks k app task found (sensor is) =
    let below = slice_get_within p.ins (node_no p k) is.flow is.found in absurd (omega arith)
node_found p clocks k app task found (node is) =
    let number : is.number ≡ k = (let at = is.at in omega arith) in
    let same : is.app ≡ app = (let e : Some is.app ≡ Some app = sym is.found ∙ ap (slice_get p.apps) number ∙ found in cc) in (
      is.due,
      subst (λ (a : App). IsLeastDue p k (application_clock clocks a).period is.due) same (subst (λ n. IsLeastDue p n (application_clock clocks is.app).period is.due) number is.least),
      is.is ∙ ap (λ n. node_task clocks n is.app is.due) number ∙ ap (λ (a : App). node_task clocks k a is.due) same,
    )
node_found p clocks k app task found (actuator is) =
    let below = slice_get_within p.apps k app found in
    let at = is.at in
    absurd (omega arith)

pub actuator_found : (p : FlatProgram) (clocks : List Clock) (k : ℕ) (flow : FlowNo) (task : Task) → slice_get p.outs k ≡ Some flow → IsTaskOf p clocks (actuator_no p k) task
    → task ≡ actuator_task p clocks k flow
actuator_found p clocks k flow task found (sensor is) =
    let below = slice_get_within p.ins (actuator_no p k) is.flow is.found in absurd (omega arith)
actuator_found p clocks k flow task found (node is) =
    let below = slice_get_within p.apps is.number is.app is.found in
    let at = is.at in
    absurd (omega arith)
actuator_found p clocks k flow task found (actuator is) =
    let number : is.number ≡ k = (let at = is.at in omega arith) in
    let same : is.flow ≡ flow = (let e : Some is.flow ≡ Some flow = sym is.found ∙ ap (slice_get p.outs) number ∙ found in cc) in
    is.is ∙ ap (λ n. actuator_task p clocks n is.flow) number ∙ ap (λ (f : FlowNo). actuator_task p clocks k f) same

pub sensor_found : (p : FlatProgram) (clocks : List Clock) (k : ℕ) (flow : FlowNo) (task : Task) → slice_get p.ins k ≡ Some flow → IsTaskOf p clocks k task
    → task ≡ sensor_task p clocks k flow
sensor_found p clocks k flow task found (sensor is) =
    let same : is.flow ≡ flow = (let e : Some is.flow ≡ Some flow = sym is.found ∙ found in cc) in
    is.is ∙ ap (λ (f : FlowNo). sensor_task p clocks k f) same
sensor_found p clocks k flow task found (node is) =
    let below = slice_get_within p.ins k flow found in
    let at = is.at in
    absurd (omega arith)
sensor_found p clocks k flow task found (actuator is) =
    let below = slice_get_within p.ins k flow found in
    let at = is.at in
    absurd (omega arith)

-- a device by its number
device_found : (devices : List Device) (k : ℕ) → k < length devices → slice_get devices k ≡ Some (slice_index_or devices k ([], 0))
device_found devices k below = (let at = element_at devices k below in at.1 ∙ ap Some (sym (get_or_from_slice_get devices k at.0 ([], 0) at.1)))

pub sensor_device : (p : FlatProgram) → IsFlat p → (k : ℕ) (flow : FlowNo) → slice_get p.ins k ≡ Some flow
    → slice_get (p.in_devices ++ p.out_devices) k ≡ Some (slice_index_or p.in_devices k ([], 0))
sensor_device p flat k flow found =
    let below = slice_get_within p.ins k flow found in
    let count = flat.in_count in
    let there : k < length p.in_devices = omega arith in
    slice_get_append_left p.in_devices p.out_devices k there ∙ device_found p.in_devices k there

pub actuator_device : (p : FlatProgram) → IsFlat p → (k : ℕ) (flow : FlowNo) → slice_get p.outs k ≡ Some flow
    → slice_get (p.in_devices ++ p.out_devices) (length p.ins + k) ≡ Some (slice_index_or p.out_devices k ([], 0))
actuator_device p flat k flow found =
    let below = slice_get_within p.outs k flow found in
    let count = flat.out_count in
    let there : k < length p.out_devices = omega arith in
    ap (λ n. slice_get (p.in_devices ++ p.out_devices) (n + k)) (sym flat.in_count) ∙ append_right p.in_devices p.out_devices k ∙ device_found p.out_devices k there

-- each task has a period
pub task_period : (p : FlatProgram) (clocks : List Clock) → IsFlat p → AreClocks p clocks → (i : ℕ) (task : Task) → IsTaskOf p clocks i task → 1 ≤ task.clock.period
task_period p clocks flat are i task (sensor is) =
    let count = are.count in
    let input = flat.ins i is.flow is.found in
    let below = slice_get_within p.flows is.flow.0 input.0 input.1 in
    subst (λ (t : Task). 1 ≤ t.clock.period) (sym is.is) (are.clock is.flow.0 (omega arith))
task_period p clocks flat are i task (node is) =
    let count = are.count in
    let app = flat.apps is.number is.app is.found in
    let first = element_at is.app.outs 0 app.has_output in
    let output = app.outs 0 first.0 first.1 in
    let below = slice_get_within p.flows first.0.0 output.0 output.1 in
    subst (λ (t : Task). 1 ≤ t.clock.period) (sym is.is)
    (subst (λ (f : FlowNo). 1 ≤ (clock_of clocks f.0).period) (sym (get_or_from_slice_get is.app.outs 0 first.0 (record { 0 = 0 }) first.1)) (are.clock first.0.0 (omega arith)))
task_period p clocks flat are i task (actuator is) =
    let count = are.count in
    let below = flat.outs is.number is.flow is.found in
    subst (λ (t : Task). 1 ≤ t.clock.period) (sym is.is) (are.clock is.flow.0 (omega arith))

-- clocks of a flat program have periods in their range
pub small_periods : (p : FlatProgram) (clocks list : List Clock) → AreClocks p clocks → AreSmallClocks clocks → list ≡ clocks → HaveSmallPeriods list
small_periods p clocks list are small same = subst HaveSmallPeriods (sym same) (λ i clock found.
    (let below = slice_get_within clocks i clock found in
    let is = get_or_from_slice_get clocks i clock (record { period = 1; start = 0 }) found in (
      subst (λ (k : Clock). 1 ≤ k.period) is (are.clock i below),
      subst (λ (k : Clock). k.period < 2 ^ 31) is (small.period i below),
    )))

pub have_periods : (p : FlatProgram) (clocks : List Clock) (n : ℕ) (tasks list : List Task) → IsFlat p → AreClocks p clocks → AreFirstTasks p clocks n tasks → list ≡ tasks → HavePeriods list
have_periods p clocks n tasks list flat are made same = subst HavePeriods (sym same) (λ i task found. task_period p clocks flat are i task (made.each i task found))
