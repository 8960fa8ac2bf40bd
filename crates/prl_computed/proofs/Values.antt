-- What jobs give and keep is what a solution of the flat program has.
use Rattle.prl_base.proofs.Standard.{◌≡◌, ◌<◌, ◌≤◌, ◌<ℤ◌, ◌+ℤ◌, ◌*ℤ◌, ◌+◌, ◌*◌, ℕ, pos, List, [], length, map, Option, Some, slice_get, unwrap_or, refl, sym, ap, ◌∙◌, subst, arith, ints, option_map}
use Rattle.prl_base.proofs.Standard.{AllByRecursion, get_or_from_slice_get, mul-le-mul_right, slice_get-map}
use Rattle.prl_base.specs.Clocks.{date_at}
use Rattle.prl_base.specs.declared.numbers.FlowNo.{FlowNo}
use Rattle.prl_base.specs.declared.operators.Clock.{Clock}
use Rattle.prl_base.specs.declared.values.Value.{Value}
use Rattle.prl_base.specs.declared.values.Value.TheVariants as values
use Rattle.prl_body.specs.Vocabulary.{IsWellTyped, body_named}
use Rattle.prl_body.specs.declared.bodies.CheckedBody.{CheckedBody}
use Rattle.prl_causal.proofs.Earlier.{registers_local}
use Rattle.prl_causal.proofs.Elements.{at_place, of_mapped, some_inner}
use Rattle.prl_causal.specs.Vocabulary.{clocks_in, values_in}
use Rattle.prl_flow.proofs.ClockDates.{value_at_date}
use Rattle.prl_flow.proofs.Lists.{element_at}
use Rattle.prl_flow.specs.Vocabulary.{AreClocks, FlatProgram, HaveBodies, IsFlat, IsSolution, Rows, Solves, State, Timed, argument_flows, clock_of, flow_at, registers_at, registers_before, value_at}
use Rattle.prl_flow.specs.Vocabulary.{values_at, values_of}
use Rattle.prl_flow.specs.declared.programs.App.{App}
use Rattle.prl_graph.specs.Vocabulary.{AreSmallClocks, IsGraphOf, application_clock, given_flows, node_no, value_on_date, value_or_none, values_on_dates}
use Rattle.prl_plan.specs.Vocabulary.{IsHorizonJob, IsPlan, PlanView, task_at}
use Rattle.prl_plan.specs.declared.graphs.Task.{Task}
use Rattle.prl_values.specs.Vocabulary.{JobValues, job_values, reads_of_job}
use Rattle.prl_computed.proofs.Held.{applied_at, clock_is, earlier, registers_held, values_are}
use Rattle.prl_computed.proofs.Cited.{ValueLaws}
use Rattle.prl_computed.proofs.Tasks.{application_task, gives_own_clock, task_known}
use Rattle.prl_computed.specs.Computed.{GiveFlows, KeepRegisters}

-- a job that is released before the end has its date before it, and the other way round
before_end : (c : Clock) (n until : ℕ) → (pos c.start +ℤ (pos n *ℤ pos c.period)) <ℤ pos until → date_at c n < until
before_end c n until e = omega (arith, ints, e)

released_before : (c : Clock) (n until : ℕ) → date_at c n < until → (pos c.start +ℤ (pos n *ℤ pos c.period)) <ℤ pos until
released_before c n until e = omega (arith, ints, e)

-- the value that is there is the one that is told
told : (o : Option Value) (x : Value) → o ≡ Some x → Some (unwrap_or o (values.Int (pos 0))) ≡ o
told o x there = ap (λ (w : Option Value). Some (unwrap_or w (values.Int (pos 0)))) there ∙ sym there

module _ (law : ValueLaws) (plan : PlanView) (is_plan : IsPlan plan) (p : FlatProgram) (formed : IsFlat p) (bodies : List CheckedBody) (rows : Rows) (until : ℕ)
    (s : State) (solution : IsSolution p bodies rows until s) (small : AreSmallClocks (clocks_in s)) (fitting : HaveBodies p bodies)
    (typed : AllByRecursion IsWellTyped bodies) (is_graph : IsGraphOf p (clocks_in s) plan.graph) where
  are : AreClocks p (clocks_in s)
  are = (law.solves p bodies rows until s formed solution).0

  solved : Solves p (clocks_in s) bodies rows until (values_in s)
  solved = (law.solves p bodies rows until s formed solution).1

  abbrev by_instance : JobValues
  by_instance = job_values plan.graph bodies rows until

  abbrev on_dates : JobValues
  on_dates = values_on_dates p (clocks_in s) (values_in s) plan.graph

  -- what a job gives, and what it reads, is what the solution has at its date
  given_same : (i n : ℕ) → IsHorizonJob plan.graph until i n → by_instance i n ≡ on_dates i n
  given_same i n job =
      law.one_given plan is_plan bodies rows until by_instance on_dates (law.exist plan is_plan bodies rows until)
      (law.given p (clocks_in s) bodies rows until (values_in s) formed are small fitting typed solved plan.graph is_graph is_plan.graph) i n job

  reads_same : (i n : ℕ) → IsHorizonJob plan.graph until i n → reads_of_job plan.graph by_instance i n ≡ reads_of_job plan.graph on_dates i n
  reads_same i n job =
      law.one_reads plan is_plan bodies rows until by_instance on_dates (law.exist plan is_plan bodies rows until)
      (law.given p (clocks_in s) bodies rows until (values_in s) formed are small fitting typed solved plan.graph is_graph is_plan.graph) i n job

  job_date : (i n : ℕ) → IsHorizonJob plan.graph until i n → date_at (task_at plan.graph i).clock n < until
  job_date i n job = before_end (task_at plan.graph i).clock n until job.early

  -- a job before one of the horizon is one of it
  job_before : (i m n : ℕ) → m ≤ n → IsHorizonJob plan.graph until i n → IsHorizonJob plan.graph until i m
  job_before i m n low job =
      record { task = job.task; early = released_before (task_at plan.graph i).clock m until (earlier (task_at plan.graph i).clock m n until low (job_date i n job)) }

  -- a flow has a value at each date before the end
  has_value : (f n : ℕ) → f < length p.flows → date_at (clock_of (clocks_in s) f) n < until
      → (v : Value) × (value_on_date (clocks_in s) (values_in s) f n ≡ Some v)
  has_value f n below before =
      let within : f < length (values_in s) = omega (arith, below, solved.count) in
      let clocked : f < length (clocks_in s) = omega (arith, below, are.count) in
      let there = element_at (values_of (values_in s) f) n ((solved.up_to f within n).1 before) in
      (there.0, value_at_date (clock_of (clocks_in s) f) (values_of (values_in s) f) n (are.clock f clocked) ∙ there.1)

  pub outputs : GiveFlows p plan.graph bodies rows until s.flows
  outputs i n out of flow at found job =
      let own = gives_own_clock p formed (clocks_in s) are i (task_at plan.graph i) out of (task_known p formed (clocks_in s) are plan.graph is_graph i job.task) at in
      let date : date_at (clock_of (clocks_in s) of.0) n < until = subst (λ (c : Clock). date_at c n < until) own.0 (job_date i n job) in
      let value = has_value of.0 n own.1 date in
      let is : flow_at s of.0 ≡ flow = get_or_from_slice_get s.flows of.0 flow _ found in
      let clock : clock_of (clocks_in s) of.0 ≡ flow.clock = clock_is s of.0 ∙ ap (λ (f : Timed). f.clock) is in
      let list : values_of (values_in s) of.0 ≡ flow.values = values_are s of.0 ∙ ap (λ (f : Timed). f.values) is in
      ap (λ (vs : List Value). slice_get vs out) (given_same i n job)
      ∙ slice_get-map (value_or_none (clocks_in s) (values_in s) n) (given_flows p (task_at plan.graph i).kind) out
      ∙ ap (option_map (value_or_none (clocks_in s) (values_in s) n)) at
      ∙ told (value_on_date (clocks_in s) (values_in s) of.0 n) value.0 value.1
      ∙ ap (λ (c : Clock). value_at c (values_of (values_in s) of.0) (date_at c n)) clock
      ∙ ap (λ (vs : List Value). value_at flow.clock vs (date_at flow.clock n)) list
      ∙ ap (λ (c : Clock). value_at flow.clock flow.values (date_at c n)) (sym (own.0 ∙ clock))

  pub registers : KeepRegisters p plan.graph bodies rows until s
  registers k n app body found named job =
      let a = applied_at p bodies rows until s solution k app found in
      let task : (task_at plan.graph (node_no p k)).clock ≡ application_clock (clocks_in s) app =
      application_task p formed (clocks_in s) are plan.graph is_graph k app found job.task in
      let first = element_at app.outs 0 (formed.apps k app found).has_output in
      let one : (flow_at s first.0.0).clock ≡ a.clock =
      at_place (λ (f : FlowNo). (flow_at s f.0).clock ≡ a.clock) app.outs 0 first.0
      (of_mapped (λ (i : ℕ). (flow_at s i).clock ≡ a.clock) (λ (f : FlowNo). f.0) app.outs
      (of_mapped (λ (f : Timed). f.clock ≡ a.clock) (flow_at s) (map (λ (f : FlowNo). f.0) app.outs) a.outs_clock)) first.1 in
      let clock : application_clock (clocks_in s) app ≡ a.clock =
      ap (λ (f : FlowNo). clock_of (clocks_in s) f.0) (get_or_from_slice_get app.outs 0 first.0 (record { 0 = 0 }) first.1) ∙ clock_is s first.0.0 ∙ one in
      let date : date_at (application_clock (clocks_in s) app) n < until = subst (λ (c : Clock). date_at c n < until) task (job_date (node_no p k) n job) in
      let own : a.body ≡ body = some_inner a.body body (sym a.named ∙ named) in
      let held = registers_held p bodies rows until s solution k app a n (subst (λ (c : Clock). date_at c n < until) clock date) in
      held
      ∙ ap (λ (b : CheckedBody). Some (registers_before b (values_at a.clock (argument_flows (values_in s) app)) n)) own
      ∙ ap (λ (c : Clock). Some (registers_before body (values_at c (argument_flows (values_in s) app)) n)) (sym clock)
      ∙ ap Some (sym (law.registers p (clocks_in s) bodies rows until (values_in s) formed are small solved plan.graph is_graph k n app body found date))
      ∙ ap Some (sym (registers_local body (reads_of_job plan.graph by_instance (node_no p k)) (reads_of_job plan.graph on_dates (node_no p k)) n
      (λ m less. reads_same (node_no p k) m (job_before (node_no p k) m n (omega (arith, less)) job))))
