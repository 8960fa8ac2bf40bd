use Rattle.std.proofs.Common.{arith, ◌≡◌, ℕ, sym, subst}
use Rattle.atomic_table.specs.Table.{Allows}
use Rattle.prl_rule.specs.Vocabulary.{stop_word, StopTold, part_at, run_of, Agreed, stop_loaded, with_part}
use Rattle.prl_rule.proofs.Allowed.{load_allowed}
use Rattle.prl_rule.proofs.Granted.{grants_stop}
use Rattle.prl_seats.proofs.board.Board.load_stop.Goals as goal

pub load-requires : goal.load-requires
load-requires c =
    let word = c.word_of_stop-word.ensures in record {
      table = c.requires.table;
      word = omega (arith, word);
      allows = λ slots. subst (λ (z : ℕ). Allows (Agreed c.args.self.now.known) slots c.args.seat.now.id c.args.seat.now.me z (λ n. n) (λ n m. StopTold c.args.self.now.known c.args.task.0 c.args.place c.args.seat.now.me.0 n m.0 × (m.1 ≡ c.args.seat.now.me.1))) (sym word)
          (load_allowed c.args.self.now.known slots c.args.seat.now.id c.args.seat.now.me (stop_word (run_of c.args.self.now.known))
          (λ n. with_part c.args.task.0 (stop_loaded n (part_at c.args.self.now.known c.args.task.0 c.args.place c.args.seat.now.me.0)) c.args.seat.now.me.0)
          (λ n after. StopTold c.args.self.now.known c.args.task.0 c.args.place c.args.seat.now.me.0 n after)
          (grants_stop c.args.self.now.known c.plan_laws.ensures c.args.seat.now.id c.args.seat.now.me c.args.task.0 c.args.place c.requires.at));
    }
