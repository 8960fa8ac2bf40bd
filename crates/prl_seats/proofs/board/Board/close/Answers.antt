use Rattle.prl_base.proofs.Standard.{ap, subst, ◌∙◌, slots_items}
use Rattle.prl_rule.specs.Known.{known}
use Rattle.prl_rule.specs.declared.views.Constants.{Constants}
use Rattle.prl_seats.specs.Boards.{BoardView, IsClosing}
use Rattle.prl_seats.proofs.Joining.{closing_from}
use Rattle.prl_seats.proofs.board.Board.close.Goals as goal

pub returns-clause-closing : goal.returns-clause-closing
returns-clause-closing c =
    let same = c.self.invariant.keyed ∙ ap (λ (d : BoardView). d.known) c.self.view_is in
    subst (λ (k : Constants). IsClosing k c.args.seat.me.0 (slots_items c.close_with.result.words)) same
    (closing_from (known c.self.inside.table.shared.key.plan.now c.self.inside.table.shared.key.horizon c.self.inside.table.shared.key.gate c.self.inside.table.shared.key.sensors.now c.self.inside.table.shared.key.bodies.now) c.args.seat.id c.args.seat.me.0 (slots_items c.close_with.result.words) (slots_items c.close_with.result.slots) c.close_with.ensures.values.2)
