use Rattle.std.proofs.Common.{subst}
use Rattle.prl_board.specs.TaskSeats.{MayFinish, MayWrite}
use Rattle.prl_exec.proofs.Calls.{finish_polled, write_polled}
use Rattle.prl_exec.proofs.alone.act.Goals as goal

pub returns-in-Writing-clause-told : goal.returns-in-Writing-clause-told
returns-in-Writing-clause-told g c =
    let at = c.requires.place in
    write_polled c.args.board.now.known c.run_laws.ensures c.args.task.0 c.args.lone.now c.write.new.self c.write.result
    (c.stands.ensures c.args.board.now.known c.requires.lone.known) (at.0, at.1, subst MayWrite (c.in-Writing.ensures at.0 at.1) tt) c.write.ensures.call

pub returns-in-Ending-clause-told : goal.returns-in-Ending-clause-told
returns-in-Ending-clause-told g c =
    let at = c.requires.place in
    finish_polled c.args.board.now.known c.run_laws.ensures c.args.task.0 c.args.lone.now c.finish.new.self
    (c.stands.ensures c.args.board.now.known c.requires.lone.known) (at.0, at.1, subst MayFinish (c.in-Ending.ensures at.0 at.1) tt) c.finish.ensures.call
