use Rattle.prl_base.proofs.Standard.{arith, ◌≡◌, Some, slice_get}
use Rattle.std.specs.Vec.{vec_items}
use Rattle.prl_board.proofs.Lists.{read_there}
use Rattle.prl_exec.proofs.Holding.{polled_held, polled_kept}
use Rattle.prl_exec.proofs.workers.poll_all.Goals as goal

pub returns-in-Overrun-clause-held : goal.returns-in-Overrun-clause-held
returns-in-Overrun-clause-held g c =
    let test = c.loop-i-test.true in let end = c.len-i-end.ensures in let ok = c.loop-i.seats.ok in
    polled_held c.args.board.now (vec_items c.loop-i.seats) c.loop-i.invariant.held c.loop-i.i c.index_mut.result.now c.poll_awake.new.slot
    (read_there (vec_items c.loop-i.seats) c.loop-i.i c.index_mut.result.now (let h = c.loop-i.invariant.held.wide in omega (arith, test, end, h)) c.index_mut.ensures.value) c.poll_awake.ensures

pub returns-in-Overrun-clause-kept : goal.returns-in-Overrun-clause-kept
returns-in-Overrun-clause-kept g c = λ i was.
    let test = c.loop-i-test.true in let end = c.len-i-end.ensures in let ok = c.loop-i.seats.ok in
    polled_kept c.args.board.now (vec_items c.loop-i.seats) c.loop-i.invariant.held c.loop-i.i c.index_mut.result.now c.poll_awake.new.slot
    (read_there (vec_items c.loop-i.seats) c.loop-i.i c.index_mut.result.now (let h = c.loop-i.invariant.held.wide in omega (arith, test, end, h)) c.index_mut.ensures.value) c.poll_awake.ensures i
    (c.loop-i.invariant.kept i was)

pub loop-i-preserved : goal.loop-i-preserved
loop-i-preserved g c =
    let test = c.loop-i-test.true in let end = c.len-i-end.ensures in let ok = c.loop-i.seats.ok in
    let there : slice_get (vec_items c.loop-i.seats) c.loop-i.i ≡ Some c.index_mut.result.now =
    read_there (vec_items c.loop-i.seats) c.loop-i.i c.index_mut.result.now (let h = c.loop-i.invariant.held.wide in omega (arith, test, end, h)) c.index_mut.ensures.value in
    record {
      held = polled_held c.args.board.now (vec_items c.loop-i.seats) c.loop-i.invariant.held c.loop-i.i c.index_mut.result.now c.poll_awake.new.slot there c.poll_awake.ensures;
      kept = λ i was.
          polled_kept c.args.board.now (vec_items c.loop-i.seats) c.loop-i.invariant.held c.loop-i.i c.index_mut.result.now c.poll_awake.new.slot there c.poll_awake.ensures i
          (c.loop-i.invariant.kept i was);
    }
