use Rattle.prl_board.specs.declared.seats.Place.TheVariants as places
use Rattle.prl_exec.specs.code.Alone.{IsIdle, MayAct}
use Rattle.prl_exec.proofs.Calls.{over_polled, placed}
use Rattle.prl_exec.proofs.alone.poll.Goals as goal

pub begin-requires-clause-place : goal.begin-requires-clause-place
begin-requires-clause-place g c = placed IsIdle places.Idle c.args.lone.now c.args.task.0 c.requires.task tt c.in-Idle.ensures

pub act-requires-clause-place : goal.act-requires-clause-place
act-requires-clause-place g c = placed MayAct (places.Reading c.in-Reading.field-0 c.in-Reading.field-1) c.args.lone.now c.args.task.0 c.requires.task tt c.in-Reading.ensures

pub act-requires-in-Writing-clause-place : goal.act-requires-in-Writing-clause-place
act-requires-in-Writing-clause-place g c = placed MayAct (places.Writing c.in-Writing.field-0 c.in-Writing.field-1) c.args.lone.now c.args.task.0 c.requires.task tt c.in-Writing.ensures

pub act-requires-in-Ending-clause-place : goal.act-requires-in-Ending-clause-place
act-requires-in-Ending-clause-place g c = placed MayAct places.Ending c.args.lone.now c.args.task.0 c.requires.task tt c.in-Ending.ensures

pub returns-in-Over-clause-told : goal.returns-in-Over-clause-told
returns-in-Over-clause-told g c =
    over_polled c.args.board.now.known c.args.task.0 c.args.lone.now (c.stands.ensures c.args.board.now.known c.requires.lone.known) c.requires.task c.in-Over.ensures
