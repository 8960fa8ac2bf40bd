use Rattle.prl_base.proofs.Standard.{sym, ◌∙◌, ap, subst, err_from_is_err_and}
use Rattle.prl_plan.specs.declared.events.Event.TheVariants as events
use Rattle.prl_plan.specs.Vocabulary.{KeepsLegal, FirstBroken, first_unfinished, next_action, after_event}
use Rattle.prl_track.specs.Tracks.{TrackView}
use Rattle.prl_core.specs.Vocabulary.{CoreView, constants, IsSightOf, IsKept}
use Rattle.prl_core.proofs.Keeping.{act_served, can_serve, core_on}
use Rattle.prl_core.proofs.cores.Core.act.Goals as goal

pub returns-in_err-acted-clause-err : goal.returns-in_err-acted-clause-err
returns-in_err-acted-clause-err c =
    let p = err_from_is_err_and c.from_residual.result c.from_residual.ensures.1 in
    rw (p.1, p.2) (
      subst (λ (v : CoreView). FirstBroken (constants v) v.state (events.Act c.args.task) c.in_err-acted.field-0.0.rule) c.self.view_is c.in_err-acted.ensures.err.0,
      ap (core_on c.self.inside.bodies.now c.self.inside.sensors.now) c.in_err-acted.ensures.err.1 ∙ c.self.view_is,
    )

pub serve-requires : goal.serve-requires
serve-requires c =
    let kept = c.self.invariant.2 in
    let ok = c.in_ok-acted.ensures.ok in
    can_serve _ _ _ kept (c.machine_laws.ensures _ kept.plan kept.horizon kept.facts kept.bodies kept.rows) c.args.task ok.0 _ c.self.invariant.0 _ ok.1 _ ok.2

pub invariant_of-self-2 : goal.invariant_of-self-2
invariant_of-self-2 c =
    let kept = c.self.invariant.2 in
    let ok = c.in_ok-acted.ensures.ok in
    let done = act_served _ _ _ kept (c.machine_laws.ensures _ kept.plan kept.horizon kept.facts kept.bodies kept.rows) c.args.task ok.0 _ c.self.invariant.0 _ ok.1 _ ok.2
    _ _ _ c.serve.ensures in (
      c.self.invariant.0 ∙ sym (ap (λ (t : TrackView). t.plan) ok.3),
      c.self.invariant.1 ∙ sym (ap (λ (t : TrackView). t.horizon) ok.3),
      subst (λ (t : TrackView). IsKept (core_on c.self.inside.bodies.now c.self.inside.sensors.now t) c.serve.new.self.halves.items c.serve.new.self.workers.items) (sym ok.3) done.0,
    )

pub returns-clause-ok : goal.returns-clause-ok
returns-clause-ok c =
    let kept = c.self.invariant.2 in
    let ok = c.in_ok-acted.ensures.ok in
    let done = act_served _ _ _ kept (c.machine_laws.ensures _ kept.plan kept.horizon kept.facts kept.bodies kept.rows) c.args.task ok.0 _ c.self.invariant.0 _ ok.1 _ ok.2
    _ _ _ c.serve.ensures in (
      subst (λ (v : CoreView). KeepsLegal (constants v) v.state (events.Act c.args.task)) c.self.view_is ok.0,
      subst (λ (v : CoreView). IsSightOf v c.args.task (first_unfinished v.state c.args.task.0) (next_action (constants v) v.state c.args.task.0) c.serve.result) c.self.view_is done.1,
      ap (core_on c.self.inside.bodies.now c.self.inside.sensors.now) ok.3 ∙ ap (λ (v : CoreView). record v { state = after_event (constants v) v.state (events.Act c.args.task) }) c.self.view_is,
    )
