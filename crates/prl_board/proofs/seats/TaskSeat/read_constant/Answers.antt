use Rattle.std.proofs.Common.{refl}
use Rattle.prl_seats.proofs.Following.{known_once}
use Rattle.prl_board.proofs.Lows.{low_after_const}
use Rattle.prl_board.proofs.SeatReads.{Keeps, goes_kept}
use Rattle.prl_board.proofs.Worked.{const_may, const_taken}
use Rattle.prl_board.proofs.Begun.{ready_when, taken_with}
use Rattle.prl_board.proofs.HalfReads.{stands_at}
use Rattle.prl_board.proofs.seats.TaskSeat.read_constant.Goals as goal

pub take-requires-clause-port : goal.take-requires-clause-port
take-requires-clause-port c =
    let at = stands_at c.self.view_is c.requires.seat c.requires.reads c.self.invariant c.stands.ensures in
    (const_may c.args.board.now.known c.keeps_values.ensures.work c.keeps_values.ensures.values c.self.inside.job.task.0 c.self.inside.job.job c.self.inside.job.place at.job c.self.inside.worker at.kept.1 c.args.port c.args.value at.reads.shown.2).0

pub take-requires-clause-ready : goal.take-requires-clause-ready
take-requires-clause-ready c =
    let at = stands_at c.self.view_is c.requires.seat c.requires.reads c.self.invariant c.stands.ensures in
    ready_when c.args.board.now.known.sensors c.sensors.result.now c.args.board.now.known.bodies c.bodies.result.now c.self.inside.job.job c.job.result c.sensors.ensures c.bodies.ensures c.job.ensures c.args.port c.args.value c.args.value refl c.self.inside.worker (const_may c.args.board.now.known c.keeps_values.ensures.work c.keeps_values.ensures.values c.self.inside.job.task.0 c.self.inside.job.job c.self.inside.job.place at.job c.self.inside.worker at.kept.1 c.args.port c.args.value at.reads.shown.2).1

pub invariant_of-self : goal.invariant_of-self
invariant_of-self c =
    let at = stands_at c.self.view_is c.requires.seat c.requires.reads c.self.invariant c.stands.ensures in
    known_once c.skip.new.self.view c.args.board.now.known (λ k. Keeps k c.skip.new.self c.self.inside.low c.take.new.self) c.skip.ensures.seat.known (goes_kept c.args.board.now.known c.self.inside.job c.skip.new.self c.self.inside.low c.take.new.self c.skip.ensures.same c.skip.ensures.next
    (low_after_const c.args.board.now.known c.keeps_values.ensures.facts c.self.inside.job.task.0 c.self.inside.job.job at.job c.self.inside.low c.self.inside.job.place c.args.port c.args.value at.reads.shown.2)
    (const_taken c.args.board.now.known c.keeps_values.ensures.work c.keeps_values.ensures.values c.self.inside.job.task.0 c.self.inside.job.job c.self.inside.job.place at.job c.self.inside.worker at.kept.1 c.args.port c.args.value at.reads.shown.2 c.take.new.self (taken_with c.args.board.now.known.sensors c.sensors.result.now c.args.board.now.known.bodies c.bodies.result.now c.self.inside.job.job c.job.result c.sensors.ensures c.bodies.ensures c.job.ensures c.args.port c.args.value c.args.value refl c.self.inside.worker c.take.new.self c.take.ensures)))
