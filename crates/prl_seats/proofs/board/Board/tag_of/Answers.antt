use Rattle.std.proofs.Common.{arith, ◌≡◌, ap, subst}
use Rattle.prl_plan.specs.Horizons.{IsHorizon}
use Rattle.prl_rule.specs.Known.{known}
use Rattle.prl_rule.specs.declared.views.Constants.{Constants}
use Rattle.prl_seats.specs.Boards.{BoardView}
use Rattle.prl_seats.proofs.board.Board.tag_of.Goals as goal

pub tag_of_number-requires : goal.tag_of_number-requires
tag_of_number-requires c =
    let same : known c.self.inside.plan.now c.self.inside.horizon c.self.inside.gate c.self.inside.sensors.now c.self.inside.bodies.now ≡ c.args.self.now.known = ap (λ (d : BoardView). d.known) c.self.view_is in
    let horizon : IsHorizon c.args.self.now.known.plan c.args.self.now.known.horizon = subst (λ (k : Constants). IsHorizon k.plan k.horizon) same c.self.invariant.horizon in
    let job = c.requires.job in
    let small = c.horizons_are_small.ensures.jobs c.args.self.now.known.plan c.args.self.now.known.horizon horizon c.args.task.0 c.requires.task in
    omega (arith, small, job)
