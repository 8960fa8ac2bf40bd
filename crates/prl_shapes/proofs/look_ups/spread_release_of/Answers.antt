use Rattle.std.proofs.Common.{◌<◌, ◌^◌, ℕ, subst, sym}
use Rattle.prl_plan.specs.Horizons.{Placement}
use Rattle.prl_shapes.specs.Shown.{placed_release}
use Rattle.prl_shapes.proofs.Fits.{placed_fit, placed_small}
use Rattle.prl_shapes.proofs.look_ups.spread_release_of.Goals as goal

pub release-requires-clause-small : goal.release-requires-clause-small
release-requires-clause-small c =
    let due = subst (λ (tick : ℕ). tick < 2 ^ 33) c.dates_of-dates.ensures.deadline c.dates_of-dates.ensures.due in
    subst (λ (placed : Placement). placed_release c.args.plan.now placed c.args.i.0 c.args.n < 2 ^ 63) (sym c.placed.ensures)
    (placed_small c.args.plan.now c.args.spread.now.placement c.args.i.0 c.args.n c.requires.task c.requires.spread.0.is c.requires.spread.1 due)

pub returns-clause-early : goal.returns-clause-early
returns-clause-early c =
    let due = subst (λ (tick : ℕ). tick < 2 ^ 33) c.dates_of-dates.ensures.deadline c.dates_of-dates.ensures.due in
    subst (λ (tick : ℕ). tick < 2 ^ 33) (sym c.release.ensures)
    (subst (λ (placed : Placement). placed_release c.args.plan.now placed c.args.i.0 c.args.n < 2 ^ 33) (sym c.placed.ensures)
    (placed_fit c.args.plan.now c.args.spread.now.placement c.args.i.0 c.args.n c.requires.task c.requires.spread.0.is c.requires.spread.1 due))
