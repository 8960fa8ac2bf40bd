use Rattle.std.proofs.Common.{arith, ◌≡◌, ◌+◌, ◌<◌, ℕ, sym, ap, subst}
use Rattle.atomic_table.specs.Table.{Allows}
use Rattle.prl_plan.specs.Vocabulary.{HasPlanFacts, IsHorizon, IsPlan}
use Rattle.prl_rule.specs.Vocabulary.{slot_word, word_of, WriteTold, part_at, known, run_of, values_of, Agreed, half_stored, with_part}
use Rattle.prl_rule.specs.declared.views.Constants.{Constants}
use Rattle.prl_seats.specs.Boards.{BoardView}
use Rattle.prl_rule.proofs.Allowed.{allowed}
use Rattle.prl_rule.proofs.Granted.{grants_write}
use Rattle.prl_seats.proofs.board.Board.store_half.Goals as goal

pub store-requires : goal.store-requires
store-requires c =
    let s = c.requires.stands in
    let same : known c.self.inside.plan.now c.self.inside.horizon c.self.inside.gate c.self.inside.sensors.now c.self.inside.bodies.now ≡ c.args.self.now.known = ap (λ (d : BoardView). d.known) c.self.view_is in
    let facts : HasPlanFacts (run_of c.args.self.now.known) = subst (λ (k : Constants). HasPlanFacts (run_of k)) same c.plan_facts.ensures in
    let whole : IsPlan c.args.self.now.known.plan = subst (λ (k : Constants). IsPlan k.plan) same c.plan_is_one.ensures in
    let horizon : IsHorizon c.args.self.now.known.plan c.args.self.now.known.horizon = subst (λ (k : Constants). IsHorizon k.plan k.horizon) same c.self.invariant.horizon in
    let inside : c.args.slot.0 < (run_of c.args.self.now.known).slots =
    facts.write_cell c.args.task.0 (part_at c.args.self.now.known c.args.task.0 c.args.place c.args.seat.now.me.0).stand.ended (part_at c.args.self.now.known c.args.task.0 c.args.place c.args.seat.now.me.0).stand.place s.1 c.args.slot.0 (record { job = c.requires.job; action = (s.0, s.2.next) }) in
    let word = c.word_of_half-at.ensures in record {
      table = c.requires.table;
      word = omega (arith, inside, word);
      allows = λ slots. subst (λ (z : ℕ × ℕ). Allows (Agreed c.args.self.now.known) slots c.args.seat.now.id c.args.seat.now.me z.0 (λ n. z.1) (λ n m. WriteTold c.args.self.now.known c.args.task.0 c.args.place c.args.seat.now.me.0 m.0 × (m.1 ≡ c.args.seat.now.me.1))) (λ x. (sym word x, sym s.3 x))
          (allowed c.args.self.now.known slots c.args.seat.now.id c.args.seat.now.me (slot_word (run_of c.args.self.now.known) c.args.slot.0) (λ n. word_of (values_of c.args.self.now.known) c.args.slot.0 (s.1 + 1))
          (λ n. with_part c.args.task.0 (half_stored (run_of c.args.self.now.known) (values_of c.args.self.now.known) c.args.task.0 (part_at c.args.self.now.known c.args.task.0 c.args.place c.args.seat.now.me.0)) c.args.seat.now.me.0)
          (λ n after. WriteTold c.args.self.now.known c.args.task.0 c.args.place c.args.seat.now.me.0 after)
          (grants_write c.args.self.now.known c.plan_laws.ensures c.args.seat.now.id c.args.seat.now.me c.args.task.0 c.args.place c.requires.at whole horizon s.0 s.1 c.args.slot.0 s.2 s.4));
    }
