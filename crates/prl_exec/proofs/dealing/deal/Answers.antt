use Rattle.prl_base.proofs.Standard.{◌≡◌, ◌+◌, ◌%◌, ℕ, arith, subst, sym, ◌∙◌, List, Option, Some, ◌==◌, slice_set, nat_tests, slice_get_within}
use Rattle.std.specs.Vec.{vec_items}
use Rattle.prl_seats.specs.JobSeats.{JobSeatView}
use Rattle.prl_board.proofs.Lists.{read_there}
use Rattle.prl_exec.proofs.Dealt.{IsDealt, more_dealt}
use Rattle.prl_exec.proofs.dealing.deal.Goals as goal

pub loop-i-preserved : goal.loop-i-preserved
loop-i-preserved c =
    let test = c.loop-i-test.true in let end = c.len-i-end.ensures in let wide = c.loop-i.invariant.wide in
    let mine : ℕ → Type 0 = λ j. j % c.args.workers ≡ c.args.worker in
    subst (λ (xs : List (Option JobSeatView)). IsDealt mine (c.loop-i.i + 1) (vec_items c.args.all.now) (slice_set (vec_items c.loop-i.all) c.loop-i.i c.take.new.slot) xs)
    (sym c.in_ok-push.ensures.items)
    (more_dealt mine c.loop-i.i (vec_items c.args.all.now) (vec_items c.loop-i.all) (vec_items c.loop-i.own) c.loop-i.invariant c.index_mut.result.now c.take.new.slot c.take.result
    (read_there (vec_items c.loop-i.all) c.loop-i.i c.index_mut.result.now (omega (arith, test, end, wide)) c.index_mut.ensures.value)
    (c.loop-i.i % c.args.workers == c.args.worker) (λ e. grind (arith, nat_tests)) (λ e. grind (arith, nat_tests)) c.take.ensures)

pub returns-clause-held : goal.returns-clause-held
returns-clause-held c = λ b held.
    let test = c.loop-i-test.false in let end = c.len-i-end.ensures in let is = c.loop-i.invariant in
    let wide = is.wide in let long = is.long in let was = held.wide in (
      record { wide = is.wide ∙ held.wide; each = λ i s has. held.each i s (is.from_all i s has) },
      record { wide = is.long ∙ omega (arith, test, end, was); each = λ i s has. held.each i s (is.from_own i s has) },
    )

pub returns-clause-dealt : goal.returns-clause-dealt
returns-clause-dealt c = λ i own has.
    let test = c.loop-i-test.false in let end = c.len-i-end.ensures in let is = c.loop-i.invariant in
    let w = slice_get_within (vec_items c.args.all.now) i (Some has.0) has.1 in
    (has.0, is.dealt i (omega (arith, test, end, w)) own ∙ has.1)
