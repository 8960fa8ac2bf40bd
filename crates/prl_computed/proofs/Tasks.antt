-- The tasks of a flat program have the clocks of the flows that they give.
use Rattle.prl_base.proofs.Standard.{◌≡◌, ◌<◌, ◌≤◌, ◌+◌, ℕ, zero, suc, List, [], ◌∷◌, length, Option, Some, slice_get, slice_index_or, refl, sym, ap, ◌∙◌, subst, arith, get_or_from_slice_get, slice_get_within}
use Rattle.prl_base.specs.declared.numbers.FlowNo.{FlowNo}
use Rattle.prl_base.specs.declared.operators.Clock.{Clock}
use Rattle.prl_causal.proofs.Elements.{some_inner}
use Rattle.prl_flow.proofs.Lists.{element_at}
use Rattle.prl_flow.specs.Vocabulary.{AreClocks, FlatProgram, IsFlat, clock_of}
use Rattle.prl_flow.specs.declared.programs.App.{App}
use Rattle.prl_graph.specs.Vocabulary.{IsGraphOf, IsTaskOf, actuator, application_clock, given_flows, no_flow, node, node_no, outputs_of, sensor}
use Rattle.prl_plan.specs.Vocabulary.{no_task, task_at}
use Rattle.prl_plan.specs.declared.graphs.Task.{Task}
use Rattle.prl_plan.specs.declared.graphs.TaskGraph.{TaskGraph}

only_item : {A : Type 0} (x : A) (k : ℕ) (y : A) → slice_get (x ∷ []) k ≡ Some y → x ≡ y
only_item x zero y e = some_inner x y e
only_item x (suc k) y e = absurd (cc)

module _ (p : FlatProgram) (formed : IsFlat p) (clocks : List Clock) (are : AreClocks p clocks) where
  -- the clock of an application is that of each of its outputs
  output_clock : (k : ℕ) (app : App) → slice_get p.apps k ≡ Some app → (out : ℕ) (of : FlowNo) → slice_get app.outs out ≡ Some of → application_clock clocks app ≡ clock_of clocks of.0
  output_clock k app found out of at =
      let one = are.apps k app found in
      let first = element_at app.outs 0 (formed.apps k app found).has_output in
      let is : slice_index_or app.outs 0 (record { 0 = 0 }) ≡ first.0 = get_or_from_slice_get app.outs 0 first.0 (record { 0 = 0 }) first.1 in
      ap (λ (f : FlowNo). clock_of clocks f.0) is ∙ one.outs 0 first.0 first.1 ∙ sym (one.outs out of at)

  -- a flow that a task gives, as what it is: one of the program, with the task's clock
  pub gives_own_clock : (i : ℕ) (task : Task) (out : ℕ) (of : FlowNo) → IsTaskOf p clocks i task → slice_get (given_flows p task.kind) out ≡ Some of
      → (task.clock ≡ clock_of clocks of.0) × (of.0 < length p.flows)
  gives_own_clock i task out of (sensor is) at =
      let here : slice_get (slice_index_or p.ins i no_flow ∷ []) out ≡ Some of = subst (λ (t : Task). slice_get (given_flows p t.kind) out ≡ Some of) is.is at in
      let flow : is.flow ≡ of = sym (get_or_from_slice_get p.ins i is.flow no_flow is.found) ∙ only_item (slice_index_or p.ins i no_flow) out of here in
      let input = formed.ins i is.flow is.found in
      (ap (λ (t : Task). t.clock) is.is ∙ ap (λ (f : FlowNo). clock_of clocks f.0) flow, subst (λ (f : FlowNo). f.0 < length p.flows) flow (slice_get_within p.flows is.flow.0 input.0 input.1))
  gives_own_clock i task out of (node is) at =
      let here : slice_get (outputs_of p is.number) out ≡ Some of = subst (λ (t : Task). slice_get (given_flows p t.kind) out ≡ Some of) is.is at in
      let outs : outputs_of p is.number ≡ is.app.outs = ap (λ (a : App). a.outs) (get_or_from_slice_get p.apps is.number is.app _ is.found) in
      let place : slice_get is.app.outs out ≡ Some of = subst (λ (fs : List FlowNo). slice_get fs out ≡ Some of) outs here in
      let output = (formed.apps is.number is.app is.found).outs out of place in
      (ap (λ (t : Task). t.clock) is.is ∙ output_clock is.number is.app is.found out of place, slice_get_within p.flows of.0 output.0 output.1)
  gives_own_clock i task out of (actuator is) at =
      let here : slice_get (slice_index_or p.outs is.number no_flow ∷ []) out ≡ Some of = subst (λ (t : Task). slice_get (given_flows p t.kind) out ≡ Some of) is.is at in
      let flow : is.flow ≡ of = sym (get_or_from_slice_get p.outs is.number is.flow no_flow is.found) ∙ only_item (slice_index_or p.outs is.number no_flow) out of here in
      (ap (λ (t : Task). t.clock) is.is ∙ ap (λ (f : FlowNo). clock_of clocks f.0) flow, subst (λ (f : FlowNo). f.0 < length p.flows) flow (formed.outs is.number is.flow is.found))

  -- the task of an application has its clock
  node_clock : (k i : ℕ) (app : App) (task : Task) → slice_get p.apps k ≡ Some app → i ≡ node_no p k → IsTaskOf p clocks i task → task.clock ≡ application_clock clocks app
  node_clock k i app task found here (sensor is) = absurd (let below = slice_get_within p.ins i is.flow is.found in omega (arith, here, below))
  node_clock k i app task found here (node is) =
      let number : is.number ≡ k = (let own = is.at in omega (arith, here, own)) in
      let same : is.app ≡ app = some_inner is.app app (sym is.found ∙ ap (slice_get p.apps) number ∙ found) in
      ap (λ (t : Task). t.clock) is.is ∙ ap (application_clock clocks) same
  node_clock k i app task found here (actuator is) =
      absurd (let below = slice_get_within p.apps k app found in let own = is.at in omega (arith, here, own, below))

  module _ (graph : TaskGraph) (of : IsGraphOf p clocks graph) where
    -- each task is one of the program
    pub task_known : (i : ℕ) → i < length graph.tasks → IsTaskOf p clocks i (task_at graph i)
    task_known i below =
        let there = element_at graph.tasks i below in
        subst (IsTaskOf p clocks i) (sym (get_or_from_slice_get graph.tasks i there.0 no_task there.1)) (of.tasks.each i there.0 there.1)

    pub application_task : (k : ℕ) (app : App) → slice_get p.apps k ≡ Some app → node_no p k < length graph.tasks
        → (task_at graph (node_no p k)).clock ≡ application_clock clocks app
    application_task k app found below = node_clock k (node_no p k) app (task_at graph (node_no p k)) found refl (task_known (node_no p k) below)
