use Rattle.std.proofs.Common.{arith, vec_items}
use Rattle.prl_board.proofs.Lists.{read_there}
use Rattle.test_threads.proofs.Stepped.{seats_after}
use Rattle.test_threads.proofs.seats.is_told.Goals as goal

pub stopped-requires : goal.stopped-requires
stopped-requires c =
    let two = c.requires.tasks in let long = c.requires.seats.tasks in let task = c.requires.task in
    let there = read_there (vec_items c.args.seats.now) c.args.task c.index_mut-seat.result.now (omega (arith, two, long, task)) c.index_mut-seat.ensures.value in
    record { seat = (c.requires.seats.each c.args.task c.index_mut-seat.result.now there).0 }

pub returns : goal.returns
returns c =
    let two = c.requires.tasks in let long = c.requires.seats.tasks in let task = c.requires.task in
    let there = read_there (vec_items c.args.seats.now) c.args.task c.index_mut-seat.result.now (omega (arith, two, long, task)) c.index_mut-seat.ensures.value in
    seats_after c.args.board.now (vec_items c.args.seats.now) c.args.task c.index_mut-seat.result.now c.stopped.new.self c.requires.seats there c.stopped.ensures.seat c.stopped.ensures.same.task
