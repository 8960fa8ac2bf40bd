use Rattle.std.proofs.Common.{arith}
use Rattle.prl_rule.specs.Vocabulary.{now_word, NowTold, part_of, run_of, now_loaded, with_part}
use Rattle.prl_rule.proofs.Allowed.{load_allowed}
use Rattle.prl_rule.proofs.Granted.{grants_now}
use Rattle.prl_seats.proofs.board.Board.load_now.Goals as goal

pub load-requires : goal.load-requires
load-requires c = record {
  table = c.requires.table;
  word = omega arith;
  allows = λ slots. load_allowed c.args.self.now.known slots c.args.seat.now.id c.args.seat.now.me now_word
      (λ n. with_part c.args.task.0 (now_loaded (run_of c.args.self.now.known) c.args.task.0 n (part_of c.args.task.0 c.args.seat.now.me.0)) c.args.seat.now.me.0)
      (λ n after. NowTold c.args.self.now.known c.args.task.0 c.args.seat.now.me.0 n after)
      (grants_now c.args.self.now.known c.plan_laws.ensures c.args.seat.now.id c.args.seat.now.me c.args.task.0 c.requires.part c.requires.shut);
}
