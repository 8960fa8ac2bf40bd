use Rattle.std.proofs.Common.{arith, sym, ap, ◌∙◌}
use Rattle.prl_seats.specs.Boards.{BoardView}
use Rattle.prl_rule.specs.Known.{known}
use Rattle.prl_seats.proofs.Joining.{look_allowed}
use Rattle.prl_seats.proofs.board.Board.look.Goals as goal

pub load-requires : goal.load-requires
load-requires c =
    let sized = c.self.invariant.sized in (
      c.requires ∙ sym (ap (λ (d : BoardView). d.table) c.self.view_is),
      omega (arith, sized),
      look_allowed (known c.self.inside.table.shared.key.plan.now c.self.inside.table.shared.key.horizon c.self.inside.table.shared.key.gate c.self.inside.table.shared.key.sensors.now c.self.inside.table.shared.key.bodies.now) c.self.inside.table.shared.table_id.slots c.args.seat.now.id c.args.seat.now.me,
    )
