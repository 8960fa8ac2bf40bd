use Rattle.std.proofs.Common.{arith, ◌≡◌, ap, subst}
use Rattle.prl_plan.specs.Vocabulary.{HasPlanFacts, IsHorizon}
use Rattle.prl_rule.specs.Known.{known, run_of}
use Rattle.prl_rule.specs.declared.views.Constants.{Constants}
use Rattle.prl_seats.specs.Boards.{BoardView}
use Rattle.prl_seats.proofs.board.Board.tag_read.Goals as goal

pub tag_of_number-requires : goal.tag_of_number-requires
tag_of_number-requires c =
    let same : known c.self.inside.plan.now c.self.inside.horizon c.self.inside.gate c.self.inside.sensors.now c.self.inside.bodies.now ≡ c.args.self.now.known = ap (λ (d : BoardView). d.known) c.self.view_is in
    let horizon : IsHorizon c.args.self.now.known.plan c.args.self.now.known.horizon = subst (λ (k : Constants). IsHorizon k.plan k.horizon) same c.self.invariant.horizon in
    let facts : HasPlanFacts (run_of c.args.self.now.known) = subst (λ (k : Constants). HasPlanFacts (run_of k)) same c.plan_facts.ensures in
    let reads = c.requires in
    let from = facts.provided reads.0 reads.1 reads.2 c.args.instance reads.3 reads.4 in
    let own = facts.own from.0 from.1 from.2 c.args.instance reads.3 from.3.writes in
    let job = from.3.writes.job.job in
    let small = c.horizons_are_small.ensures.jobs c.args.self.now.known.plan c.args.self.now.known.horizon horizon from.0 from.3.writes.job.task in
    omega (arith, small, job, own)
