use Rattle.std.proofs.Common.{arith, ◌≡◌, ℕ, sym, subst, Some}
use Rattle.atomic_table.specs.Table.{Allows}
use Rattle.prl_rule.specs.Vocabulary.{stop_word, ClockStopTold, run_of, Agreed, clock_stop_loaded, with_clock}
use Rattle.prl_rule.specs.declared.views.ClockPart.{ClockPart}
use Rattle.prl_rule.proofs.Allowed.{load_allowed}
use Rattle.prl_rule.proofs.Granted.{grants_any_clock_stop}
use Rattle.prl_seats.proofs.board.Board.load_clock_stop.Goals as goal

pub load-requires : goal.load-requires
load-requires c =
    let word = c.word_of_stop-word.ensures in record {
      table = c.requires.table;
      word = omega (arith, word);
      allows = λ slots. subst (λ (z : ℕ). Allows (Agreed c.args.self.now.known) slots c.args.seat.now.id c.args.seat.now.me z (λ n. n) (λ n m. ((r : ClockPart) → c.args.seat.now.me.0.clock ≡ Some r → ClockStopTold c.args.self.now.known r c.args.seat.now.me.0 n m.0) × (m.1 ≡ c.args.seat.now.me.1))) (sym word)
          (load_allowed c.args.self.now.known slots c.args.seat.now.id c.args.seat.now.me (stop_word (run_of c.args.self.now.known))
          (λ n. with_clock (clock_stop_loaded n c.requires.clock.0) c.args.seat.now.me.0)
          (λ n after. (r : ClockPart) → c.args.seat.now.me.0.clock ≡ Some r → ClockStopTold c.args.self.now.known r c.args.seat.now.me.0 n after)
          (grants_any_clock_stop c.args.self.now.known c.plan_laws.ensures c.args.seat.now.id c.args.seat.now.me c.requires.clock.0 c.requires.clock.1));
    }
