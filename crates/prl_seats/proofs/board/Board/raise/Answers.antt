use Rattle.std.proofs.Common.{arith, ◌≡◌, ◌+◌, ℕ, sym, subst}
use Rattle.atomic_table.specs.Table.{Allows}
use Rattle.prl_rule.specs.Vocabulary.{stop_word, RaiseTold, part_at, run_of, Agreed, part_raised, with_part}
use Rattle.prl_rule.proofs.Allowed.{allowed}
use Rattle.prl_rule.proofs.Granted.{grants_raise}
use Rattle.prl_seats.proofs.board.Board.raise.Goals as goal

pub store-requires : goal.store-requires
store-requires c =
    let word = c.word_of_stop-word.ensures in record {
      table = c.requires.table;
      word = omega (arith, word);
      allows = λ slots. subst (λ (z : ℕ × ℕ). Allows (Agreed c.args.self.now.known) slots c.args.seat.now.id c.args.seat.now.me z.0 (λ n. z.1 + 1) (λ n m. RaiseTold c.args.self.now.known c.args.task.0 c.args.place c.args.seat.now.me.0 m.0 × (m.1 ≡ c.args.seat.now.me.1))) (λ x. (sym word x, sym c.from.ensures x))
          (allowed c.args.self.now.known slots c.args.seat.now.id c.args.seat.now.me (stop_word (run_of c.args.self.now.known)) (λ n. c.args.task.0 + 1)
          (λ n. with_part c.args.task.0 (part_raised (part_at c.args.self.now.known c.args.task.0 c.args.place c.args.seat.now.me.0)) c.args.seat.now.me.0)
          (λ n after. RaiseTold c.args.self.now.known c.args.task.0 c.args.place c.args.seat.now.me.0 after)
          (grants_raise c.args.self.now.known c.plan_laws.ensures c.args.seat.now.id c.args.seat.now.me c.args.task.0 c.args.place c.requires.at c.requires.over));
    }
