use Rattle.std.proofs.Common.{◌+◌}
use Rattle.prl_rule.specs.Known.{run_of}
use Rattle.prl_seats.proofs.Following.{known_once}
use Rattle.prl_board.proofs.Lows.{low_shut}
use Rattle.prl_board.proofs.SeatReads.{Keeps, end_kept}
use Rattle.prl_board.proofs.TaskPlaces.{ending_is_end}
use Rattle.prl_board.proofs.Worked.{end_left, end_may}
use Rattle.prl_board.proofs.Begun.{begun_with, ready_with}
use Rattle.prl_board.proofs.HalfReads.{stands_at}
use Rattle.prl_board.proofs.seats.TaskSeat.finish.Goals as goal

pub begin-requires : goal.begin-requires
begin-requires c =
    let at = stands_at c.self.view_is c.requires.seat (ending_is_end c.args.self.now.stage c.requires.place) c.self.invariant c.stands.ensures in
    ready_with c.args.board.now.known.sensors c.sensors.result.now c.args.board.now.known.bodies c.bodies.result.now c.self.inside.job.job c.job.result c.sensors.ensures c.bodies.ensures c.job.ensures c.self.inside.worker (end_may c.args.board.now.known c.keeps_values.ensures.work c.keeps_values.ensures.values c.self.inside.job.task.0 c.self.inside.job.job c.self.inside.job.place at.job c.self.inside.worker at.kept.1 at.reads.shown.2)

pub invariant_of-self : goal.invariant_of-self
invariant_of-self c =
    let at = stands_at c.self.view_is c.requires.seat (ending_is_end c.args.self.now.stage c.requires.place) c.self.invariant c.stands.ensures in
    known_once c.finish.new.self.view c.args.board.now.known (λ k. Keeps k c.finish.new.self c.self.inside.low c.end.new.self) c.finish.ensures.seat.known (end_kept c.args.board.now.known c.self.inside.job c.finish.new.self c.self.inside.low c.end.new.self c.finish.ensures.same c.finish.ensures.told.job c.finish.ensures.told.place
    (low_shut c.args.board.now.known (run_of c.args.board.now.known) c.self.inside.job.task.0 (c.self.inside.job.job + 1) 0 c.self.inside.low c.finish.new.self.stage c.finish.ensures.told.stage)
    (end_left c.args.board.now.known c.keeps_values.ensures.work c.keeps_values.ensures.values c.self.inside.job.task.0 c.self.inside.job.job c.self.inside.job.place at.job c.self.inside.worker at.kept.1 at.reads.shown.2 c.begin.new.self c.end.new.self (begun_with c.args.board.now.known.sensors c.sensors.result.now c.args.board.now.known.bodies c.bodies.result.now c.self.inside.job.job c.job.result c.sensors.ensures c.bodies.ensures c.job.ensures c.self.inside.worker c.begin.new.self c.begin.ensures) c.end.ensures))
