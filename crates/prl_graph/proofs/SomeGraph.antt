-- A flat program with clocks has a task graph or a fault.
use Rattle.prl_base.proofs.Standard.{◌≡◌, ◌≢◌, ◌<◌, ◌≤◌, ◌+◌, ◌-◌, ◌*◌, ◌/◌, ◌⊎◌, ℕ, zero, suc, List, [], ◌∷◌, ◌++◌, length, take, slice_get, Some, None, refl, sym, ◌∙◌, ap, subst, arith, inl, inr}
use Rattle.prl_base.proofs.Standard.{◌%◌, ⊎_elim, cases_lt, length_push, IsGcd-from_zero, IsGcd-from_mod, mod_below, get_or_from_slice_get, slice_get_within, IsGcd, cases_eq}
use Rattle.prl_base.specs.declared.limits.What.TheVariants as limits
use Rattle.prl_base.specs.declared.numbers.FlowNo.{FlowNo}
use Rattle.prl_base.specs.declared.operators.Clock.{Clock}
use Rattle.prl_base.specs.declared.operators.Op.{Op}
use Rattle.prl_flow.specs.Vocabulary.{FlatProgram, IsFlat, AreClocks, clock_of, HasNoCycle}
use Rattle.prl_flow.specs.declared.programs.Def.{Def}
use Rattle.prl_flow.specs.declared.programs.Flow.{Flow}
use Rattle.prl_flow.specs.declared.programs.Def.TheVariants as definitions
use Rattle.prl_flow.proofs.Lists.{element_at}
use Rattle.prl_plan.specs.declared.graphs.Edge.{Edge}
use Rattle.prl_plan.specs.declared.graphs.Task.{Task}
use Rattle.prl_plan.specs.declared.graphs.TaskGraph.{TaskGraph}
use Rattle.prl_plan.specs.declared.limits.TheConstants.{MAX_EDGES, MAX_HYPER, MAX_PERIOD_JOBS, MAX_TASKS}
use Rattle.prl_plan.specs.declared.graphs.Producer.TheVariants as producers
use Rattle.prl_graph.specs.Vocabulary.{GraphFault, AllowsDue, AreDuesAllowed, BindsApplication, CopiesOutput, NotesDue, input, output, copy, AreEdges, IsEdgeOf, LeadsBack, IsHyperperiod}
use Rattle.prl_graph.specs.Vocabulary.{IsPastHyperperiod, InputPort, actuator_no, node_no, ports_of, sensor_no, task_count, HasDues, IsGraphFault, IsGraphOf, IsOfProgram, jobs_within, told, AreTasks}
use Rattle.prl_graph.specs.Vocabulary.{IsTaskOf, actuator_task, application_clock, node_task, sensor, node, actuator, sensor_task, IsLabelOf, IsLeastOfFirst, IsMisplaced, IsPlaced, IsRanged}
use Rattle.prl_graph.specs.Vocabulary.{IsUnranged, HasProducer, StepsBack}
use Rattle.prl_numbers.specs.Multiples.{IsLeastMultiple}
use Rattle.prl_graph.specs.declared.faults.GraphFault.TheVariants as faults
use Rattle.prl_graph.specs.code.Steps as steps
use Rattle.prl_graph.proofs.DueFacts.{all_placed, all_ranged, no_due, non_task, nowhere_allowed, of_noted, one_copied, out_of_range}
use Rattle.prl_graph.proofs.LeastDues.{least_more, least_of_all}
use Rattle.prl_graph.proofs.Lists.{push_cases}
use Rattle.prl_graph.proofs.Multiples.{hyper_all, hyper_more, hyper_none, past_hyper}
use Rattle.prl_numbers.proofs.LeastMultiples.{least_multiple_is}
use Rattle.prl_graph.proofs.Ports.{port_within}
use Rattle.prl_graph.proofs.Walks.{copied_within, few_steps, one_copy, one_operator, operand_within, produced_by, way_of}
use Rattle.prl_graph.proofs.Ways.{same_flow}

-- two numbers have a greatest common divisor
gcd_of : (most a b : ℕ) → b ≤ most → (g : ℕ) × IsGcd a b g
gcd_of most a zero bound = (a, IsGcd-from_zero a 0 refl)
gcd_of zero a (suc b) bound = absurd (omega (arith, bound))
gcd_of (suc most) a (suc b) bound =
    let rest = gcd_of most (suc b) (a % suc b) (omega (arith, mod_below a (suc b) (omega arith), bound)) in
    (rest.0, IsGcd-from_mod a (suc b) rest.0 rest.1)

-- the running least common multiple, or the first that is past the limit
running : (clocks : List Clock) → ((i : ℕ) (clock : Clock) → slice_get clocks i ≡ Some clock → 1 ≤ clock.period) → (n : ℕ) → n ≤ length clocks
    → ((hyper : ℕ) × IsHyperperiod (take n clocks) hyper × (hyper ≤ MAX_HYPER)) ⊎ ((found : ℕ) × IsPastHyperperiod clocks found)
running clocks periods zero within = inl (1, hyper_none clocks, omega arith)
running clocks periods (suc n) within =
    ⊎_elim
    (λ (hyper, is, few).
    (let at = element_at clocks n (omega arith) in
    let gcd = gcd_of at.0.period hyper at.0.period (omega arith) in
    let next : IsLeastMultiple hyper at.0.period (hyper / gcd.0 * at.0.period) = least_multiple_is hyper at.0.period gcd.0 is.positive (periods n at.0 at.1) gcd.1 in
    let one : n + 1 ≡ suc n = omega arith in
    ⊎_elim
    (λ past. inr (hyper / gcd.0 * at.0.period, past_hyper clocks n hyper (hyper / gcd.0 * at.0.period) at.0 at.1 is few next past))
    (λ not_past. inl (hyper / gcd.0 * at.0.period, subst (λ m. IsHyperperiod (take m clocks) (hyper / gcd.0 * at.0.period)) one (hyper_more clocks n hyper (hyper / gcd.0 * at.0.period) at.0 at.1 is next), not_past))
    (cases_lt MAX_HYPER (hyper / gcd.0 * at.0.period))))
    (λ past. inr past)
    (running clocks periods n (omega arith))

-- a flow is among these, or not
among : (xs : List FlowNo) (i : ℕ) → ((k : ℕ) × (slice_get xs k ≡ Some (record { 0 = i }))) ⊎ (((k : ℕ) → slice_get xs k ≡ Some (record { 0 = i }) → ⊥))
among [] i = inr (λ k h. cc)
among (x ∷ xs) i =
    ⊎_elim
    (λ same. inl (zero, ap (λ n. Some (record { 0 = n })) same))
    (λ apart. ⊎_elim
    (λ (k, at). inl (suc k, at))
    (λ none. inr (λ k h. not_here x xs i apart none k h))
    (among xs i))
    (cases_eq x.0 i)
  where
    not_here : (x : FlowNo) (xs : List FlowNo) (i : ℕ) → x.0 ≢ i → ((k : ℕ) → slice_get xs k ≡ Some (record { 0 = i }) → ⊥) → (k : ℕ) → slice_get (x ∷ xs) k ≡ Some (record { 0 = i }) → ⊥
    not_here x xs i apart none zero h = apart (let e : x ≡ record { 0 = i } = cc in ap (λ (f : FlowNo). f.0) e)
    not_here x xs i apart none (suc k) h = none k h

-- a flow whose definition is no copy copies nothing
no_copies : (p : FlatProgram) (i : ℕ) (flow : Flow) (d : Def) → slice_get p.flows i ≡ Some flow → flow.def ≡ d → ((of : FlowNo) → d ≡ definitions.Copy of → ⊥) → (k : ℕ) → CopiesOutput p i k → ⊥
no_copies p i flow d found is fails k c = fails c.of (sym is ∙ ap (λ (f : Flow). f.def) (same_flow p i flow c.flow found c.found) ∙ c.copies)

-- and a copy of a flow that is no output copies none
no_output : (p : FlatProgram) (i : ℕ) (flow : Flow) (of : FlowNo) (source : Flow) (d : Def) → slice_get p.flows i ≡ Some flow → flow.def ≡ definitions.Copy of → slice_get p.flows of.0 ≡ Some source → source.def ≡ d
    → ((app out : ℕ) → d ≡ definitions.Apply app out → ⊥) → (k : ℕ) → CopiesOutput p i k → ⊥
no_output p i flow of source d found is at def fails k c =
    let same : of ≡ c.of = cc in
    let flows : source ≡ c.output.0 = same_flow p c.of.0 source c.output.0 (subst (λ (f : FlowNo). slice_get p.flows f.0 ≡ Some source) same at) c.output.1 in
    fails k c.out (sym def ∙ ap (λ (f : Flow). f.def) flows ∙ c.output.2)

abbrev Copied : FlatProgram → ℕ → Type 0
Copied p i = ((k : ℕ) × CopiesOutput p i k) ⊎ ((k : ℕ) → CopiesOutput p i k → ⊥)

copies_by : (p : FlatProgram) (i : ℕ) (flow : Flow) (of : FlowNo) (source : Flow) (d : Def) → slice_get p.flows i ≡ Some flow → flow.def ≡ definitions.Copy of → slice_get p.flows of.0 ≡ Some source → source.def ≡ d → Copied p i
copies_by p i flow of source (definitions.Apply app out) found is at def = inl (app, record { flow = flow; found = found; of = of; copies = is; out = out; output = (source, at, def) })
copies_by p i flow of source (definitions.Sensor s) found is at def = inr (no_output p i flow of source (definitions.Sensor s) found is at def (λ app out e. cc))
copies_by p i flow of source (definitions.Copy s) found is at def = inr (no_output p i flow of source (definitions.Copy s) found is at def (λ app out e. cc))
copies_by p i flow of source (definitions.Const s) found is at def = inr (no_output p i flow of source (definitions.Const s) found is at def (λ app out e. cc))
copies_by p i flow of source (definitions.Op s t) found is at def = inr (no_output p i flow of source (definitions.Op s t) found is at def (λ app out e. cc))

copied : (p : FlatProgram) → IsFlat p → (i : ℕ) (flow : Flow) (d : Def) → slice_get p.flows i ≡ Some flow → flow.def ≡ d → Copied p i
copied p flat i flow (definitions.Copy of) found is =
    let at = element_at p.flows of.0 (copied_within p flat i flow of found is) in
    copies_by p i flow of at.0 at.0.def found is at.1 refl
copied p flat i flow (definitions.Sensor s) found is = inr (no_copies p i flow (definitions.Sensor s) found is (λ of e. cc))
copied p flat i flow (definitions.Const s) found is = inr (no_copies p i flow (definitions.Const s) found is (λ of e. cc))
copied p flat i flow (definitions.Apply app out) found is = inr (no_copies p i flow (definitions.Apply app out) found is (λ of e. cc))
copied p flat i flow (definitions.Op s t) found is = inr (no_copies p i flow (definitions.Op s t) found is (λ of e. cc))

-- a due may stand on a flow, or not
allowed : (p : FlatProgram) → IsFlat p → (i : ℕ) (flow : Flow) → slice_get p.flows i ≡ Some flow → AllowsDue p i ⊎ (AllowsDue p i → ⊥)
allowed p flat i flow found =
    ⊎_elim
    (λ holds. inl (input holds))
    (λ no_input. ⊎_elim
    (λ holds. inl (output holds))
    (λ no_out. ⊎_elim
    (λ (k, holds). inl (copy k holds))
    (λ none. inr (nowhere_allowed p i (λ h. no_input h.0 h.1) (λ h. no_out h.0 h.1) none))
    (copied p flat i flow flow.def found refl))
    (among p.outs i))
    (among p.ins i)

placed_or_not : (p : FlatProgram) → IsFlat p → (i : ℕ) (flow : Flow) → slice_get p.flows i ≡ Some flow → IsPlaced p i ⊎ IsMisplaced p i
placed_or_not p flat i flow found =
    elim flow.due as (λ o. flow.due ≡ o → IsPlaced p i ⊎ IsMisplaced p i) [
      | None ↦ λ e. inl (λ due notes. absurd (no_due p i due flow found e notes))
      | Some due ↦ λ e. ⊎_elim
          (λ holds. inl (λ other notes. holds))
          (λ fails. inr (record { due = due; notes = record { flow = flow; found = found; noted = e }; refused = fails }))
          (allowed p flat i flow found)
    ] refl

ranged_or_not : (p : FlatProgram) (clocks : List Clock) (i : ℕ) (flow : Flow) → slice_get p.flows i ≡ Some flow → IsRanged p clocks i ⊎ ((due : ℕ) × IsUnranged p clocks i due)
ranged_or_not p clocks i flow found =
    elim flow.due as (λ o. flow.due ≡ o → IsRanged p clocks i ⊎ ((due : ℕ) × IsUnranged p clocks i due)) [
      | None ↦ λ e. inl (λ due notes. absurd (no_due p i due flow found e notes))
      | Some due ↦ λ e. ⊎_elim
          (λ low. inr (due, record { notes = record { flow = flow; found = found; noted = e }; refused = λ within. (let w = within.0 in omega arith) }))
          (λ some. ⊎_elim
          (λ past. inr (due, record { notes = record { flow = flow; found = found; noted = e }; refused = λ within. (let w = within.1 in omega arith) }))
          (λ within. inl (of_noted p clocks i due flow found e (some, within)))
          (cases_lt (clock_of clocks i).period due))
          (cases_lt due 1)
    ] refl

-- all of the first `n` hold, or there is a first that does not
first_not : (P Q : ℕ → Type 0) → ((i : ℕ) → P i ⊎ Q i) → (n : ℕ) → ((i : ℕ) → i < n → P i) ⊎ ((i : ℕ) × (i < n) × Q i × ((j : ℕ) → j < i → P j))
first_not P Q decide zero = inl (λ i low. absurd (omega arith))
first_not P Q decide (suc n) =
    ⊎_elim
    (λ all. ⊎_elim
    (λ here. inl (λ i low. ⊎_elim (λ less. all i less) (λ not_less. (let e : n ≡ i = omega arith in subst P e here)) (cases_lt i n)))
    (λ not. inr (n, (let e : n < suc n = omega arith in e), not, all))
    (decide n))
    (λ (i, low, not, lower). inr (i, (let e : i < suc n = omega arith in e), not, lower))
    (first_not P Q decide n)

-- past the flows there is nothing to place
no_flow_there : (p : FlatProgram) (i due : ℕ) → length p.flows ≤ i → NotesDue p i due → ⊥
no_flow_there p i due past notes = (let low = slice_get_within p.flows i notes.flow notes.found in omega arith)

decide_placed : (p : FlatProgram) → IsFlat p → (i : ℕ) → IsPlaced p i ⊎ IsMisplaced p i
decide_placed p flat i =
    ⊎_elim (λ below. (let at = element_at p.flows i below in placed_or_not p flat i at.0 at.1)) (λ past. inl (λ due notes. absurd (no_flow_there p i due past notes))) (cases_lt i (length p.flows))

decide_ranged : (p : FlatProgram) (clocks : List Clock) (i : ℕ) → IsRanged p clocks i ⊎ ((due : ℕ) × IsUnranged p clocks i due)
decide_ranged p clocks i =
    ⊎_elim (λ below. (let at = element_at p.flows i below in ranged_or_not p clocks i at.0 at.1)) (λ past. inl (λ due notes. absurd (no_flow_there p i due past notes))) (cases_lt i (length p.flows))

-- the dues are right, or there is a fault
abbrev Fault : FlatProgram → List Clock → Type 0
Fault p clocks = (fault : GraphFault) × IsOfProgram fault × IsGraphFault p clocks fault

label_is : (p : FlatProgram) (i due : ℕ) → (notes : NotesDue p i due) → IsLabelOf p i notes.flow.label
label_is p i due notes = record { flow = notes.flow; found = notes.found; is = refl }

dues_or_fault : (p : FlatProgram) (clocks : List Clock) → IsFlat p → HasDues p clocks ⊎ Fault p clocks
dues_or_fault p clocks flat =
    let n = length p.flows in
    ⊎_elim
    (λ placed.
    (let allowed : AreDuesAllowed p = all_placed p n (omega arith) placed in
    ⊎_elim
    (λ ranged. inl (record { allowed = allowed; within = all_ranged p clocks n (omega arith) ranged }))
    (λ (i, low, not, lower). inr (faults.DueRange not.1.notes.flow.label not.0 (clock_of clocks i).period, tt, (allowed, out_of_range p clocks i not.0 not.1.notes.flow.label not.1 lower (label_is p i not.0 not.1.notes))))
    (first_not (IsRanged p clocks) (λ i. (due : ℕ) × IsUnranged p clocks i due) (decide_ranged p clocks) n)))
    (λ (i, low, not, lower). inr (faults.DueOnNonTask not.notes.flow.label, tt, non_task p i not.notes.flow.label not lower (label_is p i not.due not.notes)))
    (first_not (IsPlaced p) (IsMisplaced p) (decide_placed p flat) n)

-- whether the due on a flow binds this application
binds_or_not : (p : FlatProgram) → IsFlat p → (k i : ℕ) → ((due : ℕ) × BindsApplication p k i due) ⊎ ((due : ℕ) → BindsApplication p k i due → ⊥)
binds_or_not p flat k i =
    ⊎_elim
    (λ below.
    (let at = element_at p.flows i below in
    elim at.0.due as (λ o. at.0.due ≡ o → ((due : ℕ) × BindsApplication p k i due) ⊎ ((due : ℕ) → BindsApplication p k i due → ⊥)) [
      | None ↦ λ e. inr (λ due b. no_due p i due at.0 at.1 e b.notes)
      | Some due ↦ λ e. ⊎_elim
          (λ (l, c). ⊎_elim
          (λ same. ⊎_elim
          (λ out. inr (λ other b. b.local out))
          (λ no_out. inl (due, record { notes = record { flow = at.0; found = at.1; noted = e }; copies = subst (CopiesOutput p i) same c; local = λ out. no_out out.0 out.1 }))
          (among p.outs i))
          (λ apart. inr (λ other b. apart (one_copied p i k l b.copies c)))
          (cases_eq l k))
          (λ none. inr (λ other b. none k b.copies))
          (copied p flat i at.0 at.0.def at.1 refl)
    ] refl))
    (λ past. inr (λ due b. no_flow_there p i due past b.notes))
    (cases_lt i (length p.flows))

least_first : (p : FlatProgram) → IsFlat p → (k period n : ℕ) → (due : ℕ) × IsLeastOfFirst p n k period due
least_first p flat k period zero = (period, record { within = omega arith; least = λ i other low binds. absurd (omega arith); attained = inl refl })
least_first p flat k period (suc n) =
    let before = least_first p flat k period n in
    let old = before.1 in
    ⊎_elim
    (λ (due, binds). ⊎_elim
    (λ less. (
      due,
      least_more p n (suc n) k period due (omega arith) (omega (arith, old.within)) (λ i other early b. (let e = old.least i other early b in omega arith))
          (λ other b. (let same = due_same p k n due other binds b in omega arith)) (inr (n, binds)),
    ))
    (λ not_less. (before.0, least_more p n (suc n) k period before.0 (omega arith) old.within old.least (λ other b. (let same = due_same p k n due other binds b in omega arith)) old.attained))
    (cases_lt due before.0))
    (λ none. (before.0, least_more p n (suc n) k period before.0 (omega arith) old.within old.least (λ other b. absurd (none other b)) old.attained))
    (binds_or_not p flat k n)
  where
    due_same : (p : FlatProgram) (k n due other : ℕ) → BindsApplication p k n due → BindsApplication p k n other → due ≡ other
    due_same p k n due other a b =
        let same : a.notes.flow ≡ b.notes.flow = same_flow p n a.notes.flow b.notes.flow a.notes.found b.notes.found in
        cc

-- there is each task
some_task : (p : FlatProgram) (clocks : List Clock) → IsFlat p → (i : ℕ) → i < task_count p → (task : Task) × IsTaskOf p clocks i task
some_task p clocks flat i below =
    ⊎_elim
    (λ first. (let at = element_at p.ins i first in (sensor_task p clocks i at.0, sensor (record { flow = at.0; found = at.1; is = refl }))))
    (λ not_first. ⊎_elim
    (λ second.
    (let k = i - length p.ins in
    let low : k < length p.apps = omega arith in
    let at = element_at p.apps k low in
    let due = least_first p flat k (application_clock clocks at.0).period (length p.flows) in
    let number : i ≡ node_no p k = omega arith in (
      node_task clocks k at.0 due.0,
      node (record {
        number = k;
        at = number;
        app = at.0;
        found = at.1;
        due = due.0;
        least = least_of_all p (length p.flows) k (application_clock clocks at.0).period due.0 (let e : length p.flows ≤ length p.flows = omega arith in e) due.1;
        is = refl;
      }),
    )))
    (λ not_second.
    (let k = i - (length p.ins + length p.apps) in
    let low : k < length p.outs = omega arith in
    let at = element_at p.outs k low in
    let number : i ≡ actuator_no p k = omega arith in
    (actuator_task p clocks k at.0, actuator (record { number = k; at = number; flow = at.0; found = at.1; is = refl }))))
    (cases_lt i (length p.ins + length p.apps)))
    (cases_lt i (length p.ins))

-- a list of what there is for each number
listed : {A : Type 0} (P : ℕ → A → Type 0) (n : ℕ) → ((i : ℕ) → i < n → (x : A) × P i x) → (xs : List A) × (length xs ≡ n) × ((i : ℕ) (x : A) → slice_get xs i ≡ Some x → P i x)
listed P zero each = ([], refl, λ i x h. cc)
listed P (suc n) each =
    let before = listed P n (λ i low. each i (omega arith)) in
    let last = each n (omega arith) in
    let count = before.1 in (
      before.0 ++ last.0 ∷ [],
      length_push before.0 last.0 ∙ (let e : length before.0 + 1 ≡ suc n = omega arith in e),
      λ i x h. ⊎_elim
          (λ old. before.2 i x old)
          (λ new. subst (P i) new.1 (subst (λ m. P m last.0) (let e : n ≡ i = (let f = new.0 in omega arith) in e) last.1))
          (push_cases before.0 last.0 i x h),
    )

some_tasks : (p : FlatProgram) (clocks : List Clock) → IsFlat p → (tasks : List Task) × AreTasks p clocks tasks
some_tasks p clocks flat =
    let all = listed (IsTaskOf p clocks) (task_count p) (some_task p clocks flat) in
    (all.0, record { count = all.1; each = all.2 })

-- a way back ends
abbrev Ends : FlatProgram → ℕ → Type 0
Ends p i = (ops : List Op) × (source : ℕ) × LeadsBack p i ops source × HasProducer p source

ends_by : (p : FlatProgram) → IsFlat p → (i n at : ℕ) (ops : List Op) (flow : Flow) (d : Def) → slice_get p.flows at ≡ Some flow → flow.def ≡ d → StepsBack p n i ops at
    → ((of : FlowNo) (more : List Op) → StepsBack p (n + 1) i more of.0 → of.0 < length p.flows → Ends p i) → Ends p i
ends_by p flat i n at ops flow (definitions.Sensor k) found is way go =
    (ops, at, way_of p n i at ops way, produced_by p at flow (definitions.Sensor k) (producers.Port (record { 0 = sensor_no p k }) 0) found is refl)
ends_by p flat i n at ops flow (definitions.Const v) found is way go =
    (ops, at, way_of p n i at ops way, produced_by p at flow (definitions.Const v) (producers.Constant v) found is refl)
ends_by p flat i n at ops flow (definitions.Apply app out) found is way go =
    (ops, at, way_of p n i at ops way, produced_by p at flow (definitions.Apply app out) (producers.Port (record { 0 = node_no p app }) out) found is refl)
ends_by p flat i n at ops flow (definitions.Copy of) found is way go = go of ops (one_copy p n i at ops flow of way found is) (copied_within p flat at flow of found is)
ends_by p flat i n at ops flow (definitions.Op op of) found is way go =
    go of (ops ++ op ∷ []) (one_operator p n i at ops flow op of way found is) (operand_within p flat at flow op of found is)

ends_from : (p : FlatProgram) → IsFlat p → HasNoCycle p → (i fuel n at : ℕ) (ops : List Op) → fuel + n ≡ length p.flows → StepsBack p n i ops at → at < length p.flows → Ends p i
ends_from p flat causal i zero n at ops same way below = absurd (let few = few_steps p causal n i at ops way below in omega arith)
ends_from p flat causal i (suc fuel) n at ops same way below =
    let flow = element_at p.flows at below in
    ends_by p flat i n at ops flow.0 flow.0.def flow.1 refl way (λ of more next there. ends_from p flat causal i fuel (n + 1) of.0 more (omega arith) next there)

some_edge : (p : FlatProgram) (clocks : List Clock) → IsFlat p → HasNoCycle p → (port : InputPort) → port.flow < length p.flows → (edge : Edge) × IsEdgeOf p clocks port edge
some_edge p clocks flat causal port below =
    let ends = ends_from p flat causal port.flow (length p.flows) 0 port.flow [] (let e : length p.flows + 0 ≡ length p.flows = omega arith in e) (steps.none port.flow) below in
    let gives = ends.3.1 in (
      record { from = ends.3.0; to = record { 0 = port.task }; port = port.port; ops = ends.0; period = (clock_of clocks ends.1).period; ty = gives.flow.ty },
      record { to = refl; port_is = refl; source = ends.1; flow = gives.flow; leads = ends.2; found = gives.found; from = gives.produces; period = refl; ty = refl },
    )

some_edges : (p : FlatProgram) (clocks : List Clock) → IsFlat p → HasNoCycle p → (edges : List Edge) × AreEdges p clocks edges
some_edges p clocks flat causal =
    let P : ℕ → Edge → Type 0 = λ e edge. (port : InputPort) → slice_get (ports_of p) e ≡ Some port → IsEdgeOf p clocks port edge in
    let all = listed P (length (ports_of p)) (λ e low.
    (let port = element_at (ports_of p) e low in
    let edge = some_edge p clocks flat causal port.0 (port_within p flat e port.0 port.1) in
    (edge.0, λ other at. subst (λ (x : InputPort). IsEdgeOf p clocks x edge.0) (let f : Some port.0 ≡ Some other = sym port.1 ∙ at in let g : port.0 ≡ other = cc in g) edge.1))) in
    (all.0, record { count = all.1; each = λ e port edge at found. all.2 e edge found port at })

pub some_outcome : (p : FlatProgram) (clocks : List Clock) → IsFlat p → AreClocks p clocks → HasNoCycle p → ((graph : TaskGraph) × IsGraphOf p clocks graph) ⊎ Fault p clocks
some_outcome p clocks flat are causal =
    ⊎_elim
    (λ dues. ⊎_elim
    (λ many. inr (faults.Limit (record { what = limits.Tasks; found = told (task_count p) }), tt, (dues, (many, refl))))
    (λ few_tasks. ⊎_elim
    (λ many. inr (faults.Limit (record { what = limits.Edges; found = told (length (ports_of p)) }), tt, (dues, (few_tasks, many, refl))))
    (λ few_edges. ⊎_elim
    (λ (hyper, is, few).
    (let n = length clocks in
    let whole = hyper_all clocks n hyper (let e : n ≤ n = omega arith in e) is in
    let tasks = some_tasks p clocks flat in
    let edges = some_edges p clocks flat causal in
    ⊎_elim
    (λ many. inr (
      faults.Limit (record { what = limits.PeriodJobs; found = jobs_within hyper tasks.0 }),
      tt,
      (
        dues,
        (
          few_tasks,
          few_edges,
          record {
            hyper = hyper;
            hyper_is = whole;
            few_ticks = few;
            tasks = tasks.0;
            tasks_are = tasks.1;
            found_is = refl;
            past = many;
          },
        ),
      ),
    ))
    (λ few_jobs. inl (
      record { tasks = tasks.0; edges = edges.0; hyper = hyper },
      record {
        dues = dues;
        tasks = tasks.1;
        edges = edges.1;
        hyper = whole;
        few_tasks = few_tasks;
        few_edges = few_edges;
        few_ticks = few;
        few_jobs = few_jobs;
      },
    ))
    (cases_lt MAX_PERIOD_JOBS (jobs_within hyper tasks.0))))
    (λ (found, past). inr (faults.Limit (record { what = limits.Hyperperiod; found = found }), tt, (dues, (few_tasks, few_edges, past))))
    (running clocks (λ i clock found. period_of i clock found) (length clocks) (let e : length clocks ≤ length clocks = omega arith in e)))
    (cases_lt MAX_EDGES (length (ports_of p))))
    (cases_lt MAX_TASKS (task_count p)))
    (λ fault. inr fault)
    (dues_or_fault p clocks flat)
  where
    period_of : (i : ℕ) (clock : Clock) → slice_get clocks i ≡ Some clock → 1 ≤ clock.period
    period_of i clock found = subst (λ (k : Clock). 1 ≤ k.period) (get_or_from_slice_get clocks i clock (record { period = 1; start = 0 }) found) (are.clock i (slice_get_within clocks i clock found))
