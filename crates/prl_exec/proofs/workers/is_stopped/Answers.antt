use Rattle.std.proofs.Common.{arith}
use Rattle.std.specs.Vec.{vec_items}
use Rattle.prl_board.proofs.Lists.{read_there}
use Rattle.prl_exec.proofs.Holding.{polled_held, polled_kept}
use Rattle.prl_exec.proofs.workers.is_stopped.Goals as goal

pub returns-then-is_some-clause-held : goal.returns-then-is_some-clause-held
returns-then-is_some-clause-held c =
    let test = c.loop-i-test.true in let end = c.len-i-end.ensures in let h = c.loop-i.invariant.held.wide in let ok = c.loop-i.seats.ok in
    polled_held c.args.board.now (vec_items c.loop-i.seats) c.loop-i.invariant.held c.loop-i.i c.index_mut.result.now c.ask_slot.new.slot
    (read_there (vec_items c.loop-i.seats) c.loop-i.i c.index_mut.result.now (omega (arith, test, end, h)) c.index_mut.ensures.value) c.ask_slot.ensures

pub returns-then-is_some-clause-kept : goal.returns-then-is_some-clause-kept
returns-then-is_some-clause-kept c = λ i was.
    let test = c.loop-i-test.true in let end = c.len-i-end.ensures in let h = c.loop-i.invariant.held.wide in let ok = c.loop-i.seats.ok in
    polled_kept c.args.board.now (vec_items c.loop-i.seats) c.loop-i.invariant.held c.loop-i.i c.index_mut.result.now c.ask_slot.new.slot
    (read_there (vec_items c.loop-i.seats) c.loop-i.i c.index_mut.result.now (omega (arith, test, end, h)) c.index_mut.ensures.value) c.ask_slot.ensures i (c.loop-i.invariant.kept i was)
