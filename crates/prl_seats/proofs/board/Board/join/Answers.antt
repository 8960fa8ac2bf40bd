use Rattle.std.proofs.Common.{arith, ◌≡◌, false, sym, ap, subst, ◌∙◌, Some}
use Rattle.prl_rule.specs.Known.{known, run_of, values_of}
use Rattle.prl_rule.specs.declared.views.View.{View}
use Rattle.prl_seats.specs.Vocabulary.{BoardView, IsLive, share_part}
use Rattle.prl_seats.proofs.Joining.{join_allowed, joined_is, were_apart}
use Rattle.prl_seats.proofs.board.Board.join.Goals as goal

pub join_seat-requires : goal.join_seat-requires
join_seat-requires c =
    let sized = c.self.invariant.sized in
    let table = sym (ap (λ (d : BoardView). d.table) c.self.view_is) in
    let same = c.self.invariant.keyed ∙ ap (λ (d : BoardView). d.known) c.self.view_is in (
      c.requires.tables.0 ∙ table,
      c.requires.tables.1 ∙ table,
      c.requires.slots,
      omega (arith, sized),
      join_allowed (known c.self.inside.table.shared.key.plan.now c.self.inside.table.shared.key.horizon c.self.inside.table.shared.key.gate c.self.inside.table.shared.key.sensors.now c.self.inside.table.shared.key.bodies.now) (c.join_takes_all_parts.ensures.keeps (known c.self.inside.table.shared.key.plan.now c.self.inside.table.shared.key.horizon c.self.inside.table.shared.key.gate c.self.inside.table.shared.key.sensors.now c.self.inside.table.shared.key.bodies.now) (run_of (known c.self.inside.table.shared.key.plan.now c.self.inside.table.shared.key.horizon c.self.inside.table.shared.key.gate c.self.inside.table.shared.key.sensors.now c.self.inside.table.shared.key.bodies.now)) (values_of (known c.self.inside.table.shared.key.plan.now c.self.inside.table.shared.key.horizon c.self.inside.table.shared.key.gate c.self.inside.table.shared.key.sensors.now c.self.inside.table.shared.key.bodies.now))) c.args.seat.now.id c.args.other.id c.args.seat.now.me.0 c.args.other.me.0
          (c.requires.known ∙ ap Some (sym same)),
    )

pub returns-clause-apart : goal.returns-clause-apart
returns-clause-apart c = were_apart c.args.seat.now.me.0 c.args.other.me.0 (subst IsLive (ap (λ m. m.0) c.join_seat.ensures.2) c.look.ensures.live)

pub returns-clause-view : goal.returns-clause-view
returns-clause-view c =
    let apart : share_part c.args.seat.now.me.0 c.args.other.me.0 ≡ false = were_apart c.args.seat.now.me.0 c.args.other.me.0 (subst IsLive (ap (λ m. m.0) c.join_seat.ensures.2) c.look.ensures.live) in
    c.look.ensures.same.2 ∙ c.join_seat.ensures.2 ∙ ap (λ (v : View). (v, c.args.seat.now.me.1)) (joined_is c.args.seat.now.me.0 c.args.other.me.0 apart)
