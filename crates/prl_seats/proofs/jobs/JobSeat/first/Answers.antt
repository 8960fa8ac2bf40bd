use Rattle.prl_seats.proofs.Following.{first_follows}
use Rattle.prl_seats.proofs.jobs.JobSeat.first.Goals as goal

pub returns-clause-seat : goal.returns-clause-seat
returns-clause-seat c =
    let follows = first_follows c.args.board.now.known c.args.task.0 c.args.seat.me.0 c.stage_before-stage.result c.requires.part.0 c.requires.task c.stage_before-stage.ensures in
    record { table = c.requires.table; known = follows.at.known; part = follows.at.part }
