use Rattle.prl_base.proofs.Standard.{◌≡◌, ◌+◌, arith, subst, sym, ap, ◌∙◌, Option, Some, ⊎_elim, slice_set, slice_get_within}
use Rattle.std.specs.Vec.{vec_items}
use Rattle.prl_seats.specs.JobSeats.{JobSeatView}
use Rattle.prl_board.proofs.Lists.{read_there}
use Rattle.prl_exec.proofs.Dealt.{ArePut, more_put}
use Rattle.prl_exec.proofs.dealing.put_back.Goals as goal

pub loop-i-preserved : goal.loop-i-preserved
loop-i-preserved c =
    let test = c.loop-i-test.true in let end = c.len-i-end.ensures in let is = c.loop-i.invariant in let wide = is.wide in let long = is.long in let same = c.requires in
    let moved : c.take.result ≡ c.index_mut-in-loop-i.result.now = c.take.ensures.value in
    subst (λ (x : Option JobSeatView). ArePut (c.loop-i.i + 1) (vec_items c.args.all.now) (vec_items c.args.seats) (slice_set (vec_items c.loop-i.all) c.loop-i.i c.put.new.slot)
    (slice_set (vec_items c.loop-i.seats) c.loop-i.i x)) (sym c.take.ensures.after)
    (more_put c.loop-i.i (vec_items c.args.all.now) (vec_items c.args.seats) (vec_items c.loop-i.all) (vec_items c.loop-i.seats) is c.index_mut.result.now c.put.new.slot c.take.result
    (read_there (vec_items c.loop-i.all) c.loop-i.i c.index_mut.result.now (omega (arith, test, end, wide)) c.index_mut.ensures.value)
    (read_there (vec_items c.loop-i.seats) c.loop-i.i c.index_mut-in-loop-i.result.now (omega (arith, test, end, long, same)) c.index_mut-in-loop-i.ensures.value ∙ ap Some (sym moved))
    c.put.ensures)

pub returns-clause-held : goal.returns-clause-held
returns-clause-held c = λ b held other.
    let is = c.loop-i.invariant in
    record { wide = is.wide ∙ held.wide; each = λ i s has. ⊎_elim (λ h. held.each i s h) (λ h. other.each i s h) (is.from i s has) }

pub returns-clause-kept : goal.returns-clause-kept
returns-clause-kept c = λ i has.
    let test = c.loop-i-test.false in let end = c.len-i-end.ensures in let is = c.loop-i.invariant in
    let w = slice_get_within (vec_items c.args.all.now) i (Some has.0) has.1 in
    is.kept i (omega (arith, test, end, w)) has

pub returns-clause-put : goal.returns-clause-put
returns-clause-put c = λ i has.
    let test = c.loop-i-test.false in let end = c.len-i-end.ensures in let is = c.loop-i.invariant in let same = c.requires in
    let w = slice_get_within (vec_items c.args.seats) i (Some has.0) has.1 in
    is.put i (omega (arith, test, end, w, same)) has
