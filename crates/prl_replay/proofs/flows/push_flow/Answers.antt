use Rattle.std.proofs.Common.{◌≡◌, ◌<◌, ℕ, length, sym, ap, subst, ◌∙◌}
use Rattle.prl_base.specs.Names.{IsName}
use Rattle.prl_plan.specs.Vocabulary.{task_at, PlanView, IsPlan}
use Rattle.prl_plan.specs.declared.graphs.Kind.{Kind}
use Rattle.prl_plan.specs.declared.graphs.Task.{Task}
use Rattle.prl_plan.specs.declared.graphs.Kind.TheVariants as kinds
use Rattle.prl_plan.proofs.RoundPeriods.{task_is}
use Rattle.prl_core.specs.Cores.{AreOutputs}
use Rattle.prl_replay.specs.Replays.{AddsFlow}
use Rattle.prl_replay.proofs.Actuators.{one_task, task_read, actuator_name}
use Rattle.prl_replay.proofs.flows.push_flow.Goals as goal

pub flow_of-requires-clause-name : goal.flow_of-requires-clause-name
flow_of-requires-clause-name c =
    let tasks = c.as_slice.ensures ∙ ap (λ g. g.tasks) c.graph.ensures.graph in
    let at : c.index-as_slice-i.result ≡ task_at c.args.plan.now.graph c.args.i =
    task_read c.as_slice.result.now c.args.plan.now.graph.tasks c.args.i c.index-as_slice-i.result tasks c.requires.task c.index-as_slice-i.is in
    let kind = ap (λ (t : Task). t.kind) (sym at) ∙ c.in-Actuator.is in
    subst (λ (t : Task). IsName t.name) (sym at)
    (actuator_name (task_at c.args.plan.now.graph c.args.i).kind c.in-Actuator.actuator (task_at c.args.plan.now.graph c.args.i).name kind
    (task_is c.args.plan.now.graph c.plan_is_one.ensures.graph c.args.i c.requires.task).name)

pub returns-in_ok-push-in-Actuator : goal.returns-in_ok-push-in-Actuator
returns-in_ok-push-in-Actuator c =
    let tasks = c.as_slice.ensures ∙ ap (λ g. g.tasks) c.graph.ensures.graph in
    let read : c.index-as_slice-i.result ≡ task_at c.args.plan.now.graph c.args.i =
    task_read c.as_slice.result.now c.args.plan.now.graph.tasks c.args.i c.index-as_slice-i.result tasks c.requires.task c.index-as_slice-i.is in
    let at : c.index-as_slice-i.result ≡ task_at c.args.core.now.plan.graph c.args.i = read ∙ ap (λ (p : PlanView). task_at p.graph c.args.i) (sym c.requires.plan) in
    let kind : (task_at c.args.core.now.plan.graph c.args.i).kind ≡ kinds.Actuator c.in-Actuator.actuator = ap (λ (t : Task). t.kind) (sym at) ∙ c.in-Actuator.is in
    let inside : c.args.i < length c.args.core.now.plan.graph.tasks = subst (λ (p : PlanView). c.args.i < length p.graph.tasks) (sym c.requires.plan) c.requires.task in
    let gave = c.in_ok-flow-in-Actuator.ensures.values in
    let one : gave.0 ≡ c.args.i = one_task c.args.core.now.plan (subst IsPlan (sym c.requires.plan) c.plan_is_one.ensures) gave.0 c.args.i c.in-Actuator.actuator gave.1 (inside, kind) in
    subst (λ (k : Kind). AddsFlow c.args.core.now c.args.i k c.args.flows.now.items c.push.new.self.items) (sym kind) (
      c.in_ok-flow-in-Actuator.flow,
      c.in_ok-push-in-Actuator.ensures.items,
      record {
        name = c.in_ok-flow-in-Actuator.ensures.name ∙ ap (λ (t : Task). t.name) at;
        clock = c.in_ok-flow-in-Actuator.ensures.clock ∙ ap (λ (t : Task). t.clock) at;
        values = subst (λ (k : ℕ). AreOutputs c.args.core.now k c.in_ok-flow-in-Actuator.flow.values) one gave.2;
      },
    )
