use Rattle.prl_base.proofs.Standard.{◌≡◌, List, [], ◌∷◌, Some, None, length, length-append, length-set, arith, sym, ap, ◌∙◌, ⊎_elim, slice_get}
use Rattle.std.specs.Vec.{vec_items}
use Rattle.prl_seats.specs.JobSeats.{JobSeatView}
use Rattle.prl_exec.proofs.Dealt.{get_more}
use Rattle.prl_board.proofs.Lists.{read_there, set_else}
use Rattle.prl_exec.proofs.dealing.collected.Goals as goal

pub unreachable-requires : goal.unreachable-requires
unreachable-requires c =
    let test = c.loop-i-test.true in let end = c.len-i-end.ensures in let is = c.loop-i.invariant in let wide = is.wide in
    let i = c.loop-i.i in
    let there : slice_get (vec_items c.loop-i.all) i ≡ Some c.index_mut.result.now =
    read_there (vec_items c.loop-i.all) i c.index_mut.result.now (omega (arith, test, end, wide)) c.index_mut.ensures.value in
    let has = c.requires.all i (omega (arith, test, end)) in
    let e : Some c.index_mut.result.now ≡ Some (Some has.0) = sym there ∙ (is.rest i (omega arith) ∙ has.1) in
    let f : None ≡ c.index_mut.result.now = sym c.in-None.is ∙ c.take.ensures.value in
    cc (e, f)

pub loop-i-preserved : goal.loop-i-preserved
loop-i-preserved c =
    let test = c.loop-i-test.true in let end = c.len-i-end.ensures in let is = c.loop-i.invariant in let wide = is.wide in let long = is.long in
    let i = c.loop-i.i in
    let there : slice_get (vec_items c.loop-i.all) i ≡ Some c.index_mut.result.now =
    read_there (vec_items c.loop-i.all) i c.index_mut.result.now (omega (arith, test, end, wide)) c.index_mut.ensures.value in
    let items = c.push_reserved.ensures.items in
    let here : c.index_mut.result.now ≡ Some c.in-Some.seat = sym c.take.ensures.value ∙ c.in-Some.is in
    record {
      wide = length-set (vec_items c.loop-i.all) i c.take.new.self ∙ is.wide;
      long = (let a = ap length items in let b = length-append (vec_items c.loop-i.room) (c.in-Some.seat ∷ []) in omega (arith, a, b, long));
      capacity = c.push_reserved.ensures.capacity ∙ is.capacity;
      rest = λ j past. set_else (vec_items c.loop-i.all) i j c.take.new.self (λ e. omega (arith, e, past)) ∙ is.rest j (omega (arith, past));
      each = λ j s has. ⊎_elim (λ h. is.each j s h)
          (λ h. ap (slice_get (vec_items c.args.all)) (h.0 ∙ is.long) ∙ (sym (is.rest i (omega arith)) ∙ (there ∙ ap Some (here ∙ ap Some h.1))))
          (get_more (vec_items c.loop-i.room) c.in-Some.seat s j (sym (ap (λ (xs : List JobSeatView). slice_get xs j) items) ∙ has));
    }

pub returns : goal.returns
returns c = λ b held.
    let test = c.loop-i-test.false in let end = c.len-i-end.ensures in let is = c.loop-i.invariant in let long = is.long in let was = held.wide in let upto = c.loop-i.auto.i-end in
    record {
      tasks = is.long ∙ omega (arith, test, end, was, upto);
      each = λ i s has. held.each i s (is.each i s has);
    }
