use Rattle.prl_base.proofs.Standard.{◌≡◌, List, length, sym, ap, subst, ◌∙◌, All}
use Rattle.prl_flow.specs.Actuators.{AreUpTo}
use Rattle.prl_flow.specs.declared.programs.OutFlow.{OutFlow}
use Rattle.prl_plan.specs.Horizons.{constants_on}
use Rattle.prl_track.specs.declared.seen.Seen.{Seen}
use Rattle.prl_core.specs.Cores.{CoreView, opened_on}
use Rattle.prl_schedules.specs.ReadTexts.{ReadsOfTasks}
use Rattle.prl_replay.specs.Replays.{after_all, IsReplay, AreFlowsBelow}
use Rattle.prl_replay.proofs.Ends.{reads_of_tasks, flows_up_to, ended_all}
use Rattle.prl_replay.proofs.replays.run_list.Goals as goal

pub returns-clause-reads : goal.returns-clause-reads
returns-clause-reads c =
    let run : IsReplay (opened_on c.args.plan.now c.args.placed c.args.bodies.now c.args.sensors.now c.args.horizon) c.args.events.now c.in_ok-reads.reads.items =
    subst (λ (m : CoreView). IsReplay m c.args.events.now c.in_ok-reads.reads.items) c.in_ok-core.ensures c.in_ok-reads.ensures.run in
    subst (λ (reads : List Seen). All (ReadsOfTasks (length c.args.plan.now.graph.tasks)) reads) (sym c.new.ensures)
    (reads_of_tasks (opened_on c.args.plan.now c.args.placed c.args.bodies.now c.args.sensors.now c.args.horizon) c.args.events.now c.in_ok-reads.reads.items run)

pub returns-clause-outputs : goal.returns-clause-outputs
returns-clause-outputs c =
    let core : CoreView = opened_on c.args.plan.now c.args.placed c.args.bodies.now c.args.sensors.now c.args.horizon in
    let run : IsReplay (opened_on c.args.plan.now c.args.placed c.args.bodies.now c.args.sensors.now c.args.horizon) c.args.events.now c.in_ok-reads.reads.items =
    subst (λ (m : CoreView). IsReplay m c.args.events.now c.in_ok-reads.reads.items) c.in_ok-core.ensures c.in_ok-reads.ensures.run in
    let left : c.reads_of.new.core ≡ after_all (opened_on c.args.plan.now c.args.placed c.args.bodies.now c.args.sensors.now c.args.horizon) c.args.events.now =
    c.in_ok-reads.ensures.state ∙ ap (λ (m : CoreView). after_all m c.args.events.now) c.in_ok-core.ensures in
    let gated = c.legal_list_is_gated.ensures (constants_on c.args.plan.now c.args.placed c.args.horizon) c.requires.facts c.args.events.now run.legal in
    let within = c.gated_list_keeps_halves.ensures.counted (constants_on c.args.plan.now c.args.placed c.args.horizon) c.requires.facts c.args.events.now gated in
    subst (λ (outs : List OutFlow). AreUpTo c.args.horizon.until outs) (sym c.new-2.ensures)
    (flows_up_to (after_all (opened_on c.args.plan.now c.args.placed c.args.bodies.now c.args.sensors.now c.args.horizon) c.args.events.now) c.plan_is_one.ensures
    (c.horizon_jobs_are_counted.ensures c.args.plan.now.graph c.args.horizon.until)
    (ended_all (after_all (opened_on c.args.plan.now c.args.placed c.args.bodies.now c.args.sensors.now c.args.horizon) c.args.events.now) run.complete within)
    c.in_ok-outputs.outputs.items
    (subst (λ (m : CoreView). AreFlowsBelow m (length m.plan.graph.tasks) c.in_ok-outputs.outputs.items) left c.in_ok-outputs.ensures))
