use Rattle.prl_base.proofs.Standard.{arith, ◌≡◌, length-set, vec_items, sym, ◌∙◌, Some, slice_get, slice_get_within}
use Rattle.prl_board.proofs.Lending.{lent_more, parts_more, rest_more, stand_more}
use Rattle.prl_board.proofs.Lists.{read_there}
use Rattle.prl_board.proofs.lone.take_in_all.Goals as goal

pub take_in-requires-clause-seat : goal.take_in-requires-clause-seat
take_in-requires-clause-seat c =
    let test = c.loop-i-test.true in let end = c.len-i-end.ensures in let ok = c.args.seats.now.ok in let long = c.loop-i.invariant.long in
    let there = read_there (vec_items c.loop-i.seats) c.loop-i.i c.index_mut.result.now (omega (arith, test, end, ok, long)) c.index_mut.ensures.value in
    (c.requires.seats.each c.loop-i.i c.index_mut.result.now (sym (c.loop-i.invariant.rest c.loop-i.i (omega arith)) ∙ there)).0

pub loop-i-preserved : goal.loop-i-preserved
loop-i-preserved c =
    let inv = c.loop-i.invariant in
    let test = c.loop-i-test.true in let end = c.len-i-end.ensures in let ok = c.args.seats.now.ok in let long = c.loop-i.invariant.long in
    let there = read_there (vec_items c.loop-i.seats) c.loop-i.i c.index_mut.result.now (omega (arith, test, end, ok, long)) c.index_mut.ensures.value in
    let was : slice_get (vec_items c.args.seats.now) c.loop-i.i ≡ Some c.index_mut.result.now = sym (inv.rest c.loop-i.i (omega arith)) ∙ there in
    let task = (c.requires.seats.each c.loop-i.i c.index_mut.result.now was).1 in record {
      table = c.take_in.ensures.same.0 ∙ inv.table;
      slots = c.take_in.ensures.same.1 ∙ inv.slots;
      known = c.take_in.ensures.same.2;
      clock = λ r has. c.take_in.ensures.clock r (inv.clock r has);
      long = length-set (vec_items c.loop-i.seats) c.loop-i.i c.take_in.new.seat ∙ inv.long;
      done = lent_more c.args.board.now.known c.loop-i.whole.me.0 c.take_in.new.whole.me.0 c.loop-i.i (vec_items c.loop-i.seats) c.index_mut.result.now c.take_in.new.seat inv.done
          c.take_in.ensures.same.2 c.take_in.ensures.others task c.take_in.ensures.stands c.take_in.ensures.bare.0 c.take_in.ensures.bare.1 c.take_in.ensures.bare.2;
      parts = parts_more c.loop-i.whole.me.0 c.take_in.new.whole.me.0 c.loop-i.i (vec_items c.args.seats.now) c.index_mut.result.now inv.parts was task c.take_in.ensures.others c.take_in.ensures.part;
      stand = stand_more (vec_items c.args.seats.now) (vec_items c.loop-i.seats) c.loop-i.i c.index_mut.result.now c.take_in.new.seat inv.stand there c.take_in.ensures.bare.1 c.take_in.ensures.bare.2;
      rest = rest_more (vec_items c.args.seats.now) (vec_items c.loop-i.seats) c.loop-i.i c.take_in.new.seat inv.rest;
    }

pub returns-clause-lent : goal.returns-clause-lent
returns-clause-lent c = λ i s has.
    let test = c.loop-i-test.false in let end = c.len-i-end.ensures in let ok = c.args.seats.now.ok in let long = c.loop-i.invariant.long in
    c.loop-i.invariant.done i s (omega (arith, slice_get_within (vec_items c.loop-i.seats) i s has, test, end, ok, long)) has

pub returns-clause-parts : goal.returns-clause-parts
returns-clause-parts c = λ i s has.
    let test = c.loop-i-test.false in let end = c.len-i-end.ensures in let ok = c.args.seats.now.ok in
    c.loop-i.invariant.parts i s (omega (arith, slice_get_within (vec_items c.args.seats.now) i s has, test, end, ok)) has
