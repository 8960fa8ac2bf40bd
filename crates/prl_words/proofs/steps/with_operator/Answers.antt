use Rattle.std.proofs.Common.{arith}
use Rattle.prl_words.proofs.Rooms.{room_fits}
use Rattle.prl_words.proofs.steps.with_operator.Goals as goal

pub overflow_mul-step_in : goal.overflow_mul-step_in
overflow_mul-step_in c =
    let fits = room_fits c.args.op.now c.args.word c.requires c.zeros-zeros.result c.turns_under-rounds.result.rounds c.turns_under-rounds.result.out c.turns_under-rounds.ensures c.zeros-zeros.ensures in
    omega (arith, fits.jobs)

pub numbers-requires-clause-fit : goal.numbers-requires-clause-fit
numbers-requires-clause-fit c =
    let fits = room_fits c.args.op.now c.args.word c.requires c.zeros-zeros.result c.turns_under-rounds.result.rounds c.turns_under-rounds.result.out c.turns_under-rounds.ensures c.zeros-zeros.ensures in
    fits.each

pub numbers-requires-clause-range : goal.numbers-requires-clause-range
numbers-requires-clause-range c =
    let fits = room_fits c.args.op.now c.args.word c.requires c.zeros-zeros.result c.turns_under-rounds.result.rounds c.turns_under-rounds.result.out c.turns_under-rounds.ensures c.zeros-zeros.ensures in
    fits.range
