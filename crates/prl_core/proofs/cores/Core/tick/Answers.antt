use Rattle.prl_base.proofs.Standard.{sym, ◌∙◌, ap, subst, err_from_is_err_and}
use Rattle.prl_plan.specs.declared.events.Event.TheVariants as events
use Rattle.prl_plan.specs.Rules.{FirstBroken}
use Rattle.prl_track.specs.Tracks.{TrackView}
use Rattle.prl_core.specs.Vocabulary.{CoreView, constants, IsKept}
use Rattle.prl_core.proofs.Keeping.{core_on, tick_kept}
use Rattle.prl_core.proofs.cores.Core.tick.Goals as goal

pub returns-in_err-tick-clause-err : goal.returns-in_err-tick-clause-err
returns-in_err-tick-clause-err c =
    let p = err_from_is_err_and c.from_residual.result c.from_residual.ensures.1 in
    rw (p.1, p.2) (
      subst (λ (v : CoreView). FirstBroken (constants v) v.state events.Tick c.in_err-tick.field-0.0.rule) c.self.view_is c.in_err-tick.ensures.err.0,
      ap (core_on c.self.inside.bodies.now c.self.inside.sensors.now) c.in_err-tick.ensures.err.1 ∙ c.self.view_is,
    )

pub invariant_of-self-2 : goal.invariant_of-self-2
invariant_of-self-2 c =
    let kept = c.self.invariant.2 in
    let laws = c.machine_laws.ensures _ kept.plan kept.horizon kept.facts kept.bodies kept.rows in
    let ok = c.in_ok-tick.ensures.ok in (
      c.self.invariant.0 ∙ sym (ap (λ (t : TrackView). t.plan) ok.2),
      c.self.invariant.1 ∙ sym (ap (λ (t : TrackView). t.horizon) ok.2),
      subst (λ (t : TrackView). IsKept (core_on c.self.inside.bodies.now c.self.inside.sensors.now t) c.self.inside.store.halves.items c.self.inside.store.workers.items) (sym ok.2)
          (tick_kept _ _ _ kept laws ok.0),
    )
