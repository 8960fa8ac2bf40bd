use Rattle.std.proofs.Common.{arith, ◌≡◌, Some}
use Rattle.prl_rule.specs.Vocabulary.{done_word, LookTold, looked, with_clock}
use Rattle.prl_rule.specs.declared.views.ClockPart.{ClockPart}
use Rattle.prl_rule.proofs.Allowed.{load_allowed}
use Rattle.prl_rule.proofs.Granted.{grants_any_look}
use Rattle.prl_seats.proofs.board.Board.load_done.Goals as goal

pub load-requires : goal.load-requires
load-requires c =
    let task = c.requires.task in record {
      table = c.requires.table;
      word = omega (arith, task);
      allows = λ slots. load_allowed c.args.self.now.known slots c.args.seat.now.id c.args.seat.now.me (done_word c.args.task.0)
          (λ n. with_clock (looked c.args.task.0 n c.requires.clock.0) c.args.seat.now.me.0)
          (λ n after. (r : ClockPart) → c.args.seat.now.me.0.clock ≡ Some r → LookTold c.args.self.now.known c.args.task.0 r c.args.seat.now.me.0 n after)
          (grants_any_look c.args.self.now.known c.plan_laws.ensures c.args.seat.now.id c.args.seat.now.me c.requires.clock.0 c.requires.clock.1 c.args.task.0 c.requires.task);
    }
