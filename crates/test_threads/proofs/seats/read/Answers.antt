use Rattle.std.proofs.Common.{subst}
use Rattle.prl_board.specs.TaskSeats.{AnswersRead}
use Rattle.prl_board.specs.declared.seats.Got.{Got}
use Rattle.test_threads.proofs.Overruns.{may_raise}
use Rattle.test_threads.proofs.seats.read.Goals as goal

pub raise-requires-clause-over : goal.raise-requires-clause-over
raise-requires-clause-over c =
    may_raise c.args.board.now.known c.args.seat.now c.read.new.self c.in-Overrun.cell c.in-Overrun.wanted c.in-Overrun.found c.args.seat.now.stage c.in-Overrun.ensures.answer
