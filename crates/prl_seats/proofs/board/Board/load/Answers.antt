use Rattle.std.proofs.Common.{arith, ◌≡◌, sym, ap, subst, ◌∙◌}
use Rattle.atomic_table.specs.Table.{Allows}
use Rattle.prl_rule.specs.Vocabulary.{word_count, known, run_of, Agreed}
use Rattle.prl_rule.specs.declared.views.Constants.{Constants}
use Rattle.prl_seats.specs.Boards.{BoardView}
use Rattle.prl_seats.proofs.board.Board.load.Goals as goal

pub load-requires : goal.load-requires
load-requires g c =
    let same : known c.self.inside.plan.now c.self.inside.horizon c.self.inside.gate c.self.inside.sensors.now c.self.inside.bodies.now ≡ c.args.self.now.known = ap (λ (d : BoardView). d.known) c.self.view_is in (
      c.requires.table ∙ sym (ap (λ (d : BoardView). d.table) c.self.view_is),
      omega (arith, c.self.invariant.sized, ap (λ (k : Constants). word_count (run_of k)) same, c.requires.word),
      subst (λ (k : Constants). Allows (Agreed k) c.self.inside.table.shared.table_id.slots c.args.seat.now.id c.args.seat.now.me c.args.word (λ n. n) (λ n m. g.J.Telling.told c.args.seat.now.me.0 n m.0 × (m.1 ≡ c.args.seat.now.me.1))) (sym (c.self.invariant.keyed ∙ same))
          (c.requires.allows c.self.inside.table.shared.table_id.slots),
    )
