use Rattle.std.proofs.Common.{arith, ℕ, sym, ap, subst, ◌∙◌}
use Rattle.atomic_table.specs.Table.{Splits}
use Rattle.prl_seats.specs.Boards.{BoardView}
use Rattle.prl_rule.specs.Vocabulary.{known, Agreed, only_part, without_part}
use Rattle.prl_rule.proofs.Allowed.{split_allowed}
use Rattle.prl_seats.proofs.board.Board.split_as.Goals as goal

pub split_seat-requires : goal.split_seat-requires
split_seat-requires g c =
    let sized = c.self.invariant.sized in (
      c.requires.table ∙ sym (ap (λ (d : BoardView). d.table) c.self.view_is),
      omega (arith, sized),
      subst (λ (z : ℕ). Splits (Agreed (known c.self.inside.table.shared.key.plan.now c.self.inside.table.shared.key.horizon c.self.inside.table.shared.key.gate c.self.inside.table.shared.key.sensors.now c.self.inside.table.shared.key.bodies.now))
          c.args.seat.now.id c.args.seat.now.me.0 (without_part z c.args.seat.now.me.0) (only_part z c.args.seat.now.me.0)) (sym c.requires.task)
          (split_allowed (known c.self.inside.table.shared.key.plan.now c.self.inside.table.shared.key.horizon c.self.inside.table.shared.key.gate c.self.inside.table.shared.key.sensors.now c.self.inside.table.shared.key.bodies.now)
          c.args.seat.now.id c.args.task c.args.seat.now.me.0 c.requires.part.0 c.requires.part.1),
    )
