use Rattle.std.proofs.Common.{arith}
use Rattle.prl_board.proofs.clocks.ClockSeat.least_due.Goals as goal

pub returns : goal.returns
returns c = λ i n job seen. (let inside = job.task in let test = c.loop-i-test.false in let end = c.tasks-i-end.ensures in c.loop-i.invariant i n (omega (arith, inside, test, end)) job seen)
