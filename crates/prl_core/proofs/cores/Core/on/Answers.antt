use Rattle.std.proofs.Common.{sym, ap, subst}
use Rattle.prl_track.specs.Tracks.{TrackView}
use Rattle.prl_core.specs.code.Kept.{IsKept}
use Rattle.prl_core.proofs.Opening.{opened_kept}
use Rattle.prl_core.proofs.cores.Core.on.Goals as goal

pub invariant_of-result : goal.invariant_of-result
invariant_of-result c =
    let opens = c.in_ok-track.ensures in (
      sym (ap (λ (t : TrackView). t.plan) opens),
      sym (ap (λ (t : TrackView). t.horizon) opens),
      subst (λ (t : TrackView). IsKept (record { plan = t.plan; placement = t.placement; bodies = c.args.bodies.now; rows = c.args.sensors.now; horizon = t.horizon; state = t.state })
          c.in_ok-store.store.halves.items c.in_ok-store.store.workers.items) (sym opens)
          (opened_kept c.args.plan.now c.args.placed c.args.bodies.now c.args.sensors.now c.args.horizon c.plan_is_one.ensures c.requires.facts c.requires.horizon c.requires.bodies c.requires.rows
          c.in_ok-store.store.halves.items c.in_ok-store.store.workers.items c.in_ok-store.ensures.halves c.in_ok-store.ensures.workers),
    )
