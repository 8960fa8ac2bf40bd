use Rattle.std.proofs.Common.{arith}
use Rattle.prl_rule.specs.Known.{known, run_of, values_of}
use Rattle.prl_seats.proofs.Joining.{enter_allowed}
use Rattle.prl_seats.proofs.board.Board.bare.Goals as goal

pub load_new_seat-seat-requires : goal.load_new_seat-seat-requires
load_new_seat-seat-requires c =
    let sized = c.self.invariant.sized in
    (omega (arith, sized), enter_allowed (known c.self.inside.table.shared.key.plan.now c.self.inside.table.shared.key.horizon c.self.inside.table.shared.key.gate c.self.inside.table.shared.key.sensors.now c.self.inside.table.shared.key.bodies.now) (c.bare_seat_may_enter.ensures (known c.self.inside.table.shared.key.plan.now c.self.inside.table.shared.key.horizon c.self.inside.table.shared.key.gate c.self.inside.table.shared.key.sensors.now c.self.inside.table.shared.key.bodies.now) (run_of (known c.self.inside.table.shared.key.plan.now c.self.inside.table.shared.key.horizon c.self.inside.table.shared.key.gate c.self.inside.table.shared.key.sensors.now c.self.inside.table.shared.key.bodies.now)) (values_of (known c.self.inside.table.shared.key.plan.now c.self.inside.table.shared.key.horizon c.self.inside.table.shared.key.gate c.self.inside.table.shared.key.sensors.now c.self.inside.table.shared.key.bodies.now))) c.self.inside.table.shared.table_id.slots)
