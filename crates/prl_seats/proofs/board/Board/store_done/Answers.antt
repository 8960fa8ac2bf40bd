use Rattle.std.proofs.Common.{arith, ◌≡◌, ◌+◌, ℕ, sym, subst}
use Rattle.atomic_table.specs.Table.{Allows}
use Rattle.prl_rule.specs.Vocabulary.{done_word, EndTold, part_at, part_of, values_of, Agreed, done_counted, with_part}
use Rattle.prl_rule.proofs.Allowed.{allowed}
use Rattle.prl_rule.proofs.Granted.{grants_end}
use Rattle.prl_seats.proofs.board.Board.store_done.Goals as goal

pub store-requires : goal.store-requires
store-requires c =
    let task = c.requires.job.task in record {
      table = c.requires.table;
      word = omega (arith, task);
      allows = λ slots. subst (λ (z : ℕ). Allows (Agreed c.args.self.now.known) slots c.args.seat.now.id c.args.seat.now.me (done_word c.args.task.0) (λ n. z) (λ n m. EndTold c.args.self.now.known c.args.task.0 c.args.place c.args.seat.now.me.0 m.0 × (m.1 ≡ c.args.seat.now.me.1))) (sym c.requires.ended)
          (allowed c.args.self.now.known slots c.args.seat.now.id c.args.seat.now.me (done_word c.args.task.0) (λ n. (part_of c.args.task.0 c.args.seat.now.me.0).stand.ended + 1)
          (λ n. with_part c.args.task.0 (done_counted (values_of c.args.self.now.known) c.args.task.0 (part_at c.args.self.now.known c.args.task.0 c.args.place c.args.seat.now.me.0)) c.args.seat.now.me.0)
          (λ n after. EndTold c.args.self.now.known c.args.task.0 c.args.place c.args.seat.now.me.0 after)
          (grants_end c.args.self.now.known c.plan_laws.ensures c.args.seat.now.id c.args.seat.now.me c.args.task.0 c.args.place c.requires.at c.requires.stands));
    }
