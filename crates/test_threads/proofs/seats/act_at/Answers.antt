use Rattle.std.proofs.Common.{arith, vec_items}
use Rattle.prl_board.proofs.Lists.{read_there}
use Rattle.test_threads.proofs.Stepped.{seats_after}
use Rattle.test_threads.proofs.seats.act_at.Goals as goal

pub act-requires : goal.act-requires
act-requires c =
    let two = c.requires.tasks in let long = c.requires.seats.tasks in let task = c.requires.task in
    let there = read_there (vec_items c.args.seats.now) c.args.task c.index_mut.result.now (omega (arith, two, long, task)) c.index_mut.ensures.value in
    (c.requires.seats.each c.args.task c.index_mut.result.now there).0

pub returns : goal.returns
returns c =
    let two = c.requires.tasks in let long = c.requires.seats.tasks in let task = c.requires.task in
    let there = read_there (vec_items c.args.seats.now) c.args.task c.index_mut.result.now (omega (arith, two, long, task)) c.index_mut.ensures.value in
    seats_after c.args.board.now (vec_items c.args.seats.now) c.args.task c.index_mut.result.now c.act.new.seat c.requires.seats there c.act.ensures.seat c.act.ensures.same
