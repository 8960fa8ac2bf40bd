use Rattle.std.proofs.Common.{◌≡◌, ℕ, length, subst, arith}
use Rattle.prl_dates.specs.code.Lanes.{AreLanesOf}
use Rattle.prl_dates.proofs.LaneSteps.{lanes_all}
use Rattle.prl_dates.proofs.lanes.lanes.Goals as goal

pub returns : goal.returns
returns c =
    let graph = c.args.graph.now in
    lanes_all graph c.requires c.loop-e.lanes.items
    (subst (λ (k : ℕ). AreLanesOf graph k c.loop-e.lanes.items) (let e : c.loop-e.e ≡ length graph.edges = omega (arith, c.len-e-end.ensures) in e) c.loop-e.invariant)
