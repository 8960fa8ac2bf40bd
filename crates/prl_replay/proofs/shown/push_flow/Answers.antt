use Rattle.std.proofs.Common.{◌≡◌, Some, sym, ap, subst, ◌∙◌}
use Rattle.prl_base.specs.Names.{IsName}
use Rattle.prl_board.specs.Closings.{Drives}
use Rattle.prl_plan.specs.Jobs.{task_at}
use Rattle.prl_plan.specs.declared.graphs.Kind.{Kind}
use Rattle.prl_plan.specs.declared.graphs.Task.{Task}
use Rattle.prl_plan.specs.declared.graphs.Kind.TheVariants as kinds
use Rattle.prl_plan.proofs.RoundPeriods.{task_is}
use Rattle.prl_replay.specs.Shown.{AddsShown}
use Rattle.prl_replay.proofs.Results.{actuator_name, drives_in, task_read}
use Rattle.prl_rule.specs.declared.views.Constants.{Constants}
use Rattle.prl_replay.proofs.shown.push_flow.Goals.{After-index-as_slice-i}
use Rattle.prl_replay.proofs.shown.push_flow.Goals as goal

at_is : (c : After-index-as_slice-i) → c.index-as_slice-i.result ≡ task_at c.args.plan.now.graph c.args.i
at_is c =
    task_read c.as_slice.result.now c.args.plan.now.graph.tasks c.args.i c.index-as_slice-i.result (c.as_slice.ensures ∙ ap (λ g. g.tasks) c.graph.ensures.graph) c.requires.task c.index-as_slice-i.is

pub flow_of-requires-clause-name : goal.flow_of-requires-clause-name
flow_of-requires-clause-name c =
    let at = at_is (goal.at.flow_of-requires-clause-name c).After-index-as_slice-i in
    let kind = ap (λ (t : Task). t.kind) (sym at) ∙ c.in-Actuator.is in
    subst (λ (t : Task). IsName t.name) (sym at)
    (actuator_name (task_at c.args.plan.now.graph c.args.i).kind c.in-Actuator.actuator (task_at c.args.plan.now.graph c.args.i).name kind
    (task_is c.args.plan.now.graph c.plan_is_one.ensures.graph c.args.i c.requires.task).name)

pub flow_of-requires-clause-drives : goal.flow_of-requires-clause-drives
flow_of-requires-clause-drives c =
    let at = at_is (goal.at.flow_of-requires-clause-drives c).After-index-as_slice-i in
    let kind = ap (λ (t : Task). t.kind) (sym at) ∙ c.in-Actuator.is in
    let known = c.requires.known in
    (known.0, c.args.i, known.1, drives_in known.0 c.args.plan.now c.args.i c.in-Actuator.actuator known.2 c.requires.task kind)

pub returns-in_ok-push-in-Actuator : goal.returns-in_ok-push-in-Actuator
returns-in_ok-push-in-Actuator c =
    let at = at_is (goal.at.returns-in_ok-push-in-Actuator c).After-index-as_slice-i in
    let kind : (task_at c.args.plan.now.graph c.args.i).kind ≡ kinds.Actuator c.in-Actuator.actuator = ap (λ (t : Task). t.kind) (sym at) ∙ c.in-Actuator.is in
    let known = c.requires.known in
    subst (λ (x : Kind). AddsShown c.args.closed.now c.args.plan.now.graph c.args.i x c.args.flows.now.items c.push.new.self.items) (sym kind) (
      c.in_ok-flow-in-Actuator.flow,
      c.in_ok-push-in-Actuator.ensures.items,
      record {
        name = c.in_ok-flow-in-Actuator.ensures.name ∙ ap (λ (t : Task). t.name) at;
        clock = c.in_ok-flow-in-Actuator.ensures.clock ∙ ap (λ (t : Task). t.clock) at;
        values = λ k s its seat.
            let same : known.0 ≡ k = (let e : Some known.0 ≡ Some k = sym known.1 ∙ its in cc e) in
            let drives = drives_in known.0 c.args.plan.now c.args.i c.in-Actuator.actuator known.2 c.requires.task kind in
            c.in_ok-flow-in-Actuator.ensures.values k c.args.i s its (subst (λ (x : Constants). Drives x c.args.i c.in-Actuator.actuator) same drives) seat;
      },
    )
