use Rattle.std.proofs.Common.{arith, ◌≡◌, ◌+◌, ℕ, sym, subst, Some}
use Rattle.atomic_table.specs.Table.{Allows}
use Rattle.prl_rule.specs.Vocabulary.{now_word, TickTold, Agreed, ticked, with_clock}
use Rattle.prl_rule.specs.declared.views.ClockPart.{ClockPart}
use Rattle.prl_rule.proofs.Allowed.{allowed}
use Rattle.prl_rule.proofs.Granted.{grants_any_tick}
use Rattle.prl_seats.proofs.board.Board.store_now.Goals as goal

pub store-requires : goal.store-requires
store-requires c =
    let r = c.requires.clock in record {
      table = c.requires.table;
      word = omega arith;
      allows = λ slots. subst (λ (z : ℕ). Allows (Agreed c.args.self.now.known) slots c.args.seat.now.id c.args.seat.now.me now_word (λ n. z) (λ n m. ((r : ClockPart) → c.args.seat.now.me.0.clock ≡ Some r → TickTold r c.args.seat.now.me.0 m.0) × (m.1 ≡ c.args.seat.now.me.1))) (sym r.2)
          (allowed c.args.self.now.known slots c.args.seat.now.id c.args.seat.now.me now_word (λ n. r.0.now + 1)
          (λ n. with_clock (ticked r.0) c.args.seat.now.me.0)
          (λ n after. (r : ClockPart) → c.args.seat.now.me.0.clock ≡ Some r → TickTold r c.args.seat.now.me.0 after)
          (grants_any_tick c.args.self.now.known c.plan_laws.ensures c.args.seat.now.id c.args.seat.now.me r.0 r.1 r.3 r.4));
    }
