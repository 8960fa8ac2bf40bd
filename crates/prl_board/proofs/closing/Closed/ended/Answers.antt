use Rattle.prl_base.proofs.Standard.{arith, ◌≡◌, length, sym, ap, ◌∙◌, vec_items, Some, slice_get}
use mathlib.Core.Logic.{dite}
use native.Mathlib.Decide.{ℕ_discrete}
use Rattle.prl_board.specs.Closings.{ClosedView}
use Rattle.prl_seats.specs.JobSeats.{JobSeatView}
use Rattle.prl_board.proofs.ClosedBoards.{all_over, not_over}
use Rattle.prl_board.proofs.Lists.{read_there}
use Rattle.prl_board.proofs.closing.Closed.ended.Goals as goal

pub returns-then-not-is_over-clause-no : goal.returns-then-not-is_over-clause-no
returns-then-not-is_over-clause-no c = λ k s known last complete.
    let test = c.loop-i-test.true in let end = c.len-i-end.ensures in let ok = c.self.inside.seats.ok in
    let there = sym (ap (λ (d : ClosedView). slice_get d.seats c.loop-i.i) c.self.view_is) ∙ read_there (vec_items c.self.inside.seats) c.loop-i.i c.index.result.now (omega (arith, test, end, ok)) c.index.ensures in
    not_over k c.args.self.now.words c.args.self.now.seats c.loop-i.i c.index.result.now (c.stands.ensures k known) there c.if-not-is_over.ensures.no s last complete

pub loop-i-preserved : goal.loop-i-preserved
loop-i-preserved c = λ j s below has.
    let test = c.loop-i-test.true in let end = c.len-i-end.ensures in let ok = c.self.inside.seats.ok in
    let there = sym (ap (λ (d : ClosedView). slice_get d.seats c.loop-i.i) c.self.view_is) ∙ read_there (vec_items c.self.inside.seats) c.loop-i.i c.index.result.now (omega (arith, test, end, ok)) c.index.ensures in
    dite (ℕ_discrete j c.loop-i.i)
    (λ same.
    let one : c.index.result.now ≡ s = (let e : Some c.index.result.now ≡ Some s = sym there ∙ (ap (slice_get c.args.self.now.seats) (sym same) ∙ has) in cc e) in
    sym (ap (λ (t : JobSeatView). t.stage) one) ∙ c.if-not-is_over.ensures.yes)
    (λ ne. c.loop-i.invariant j s (omega (arith, below, ne)) has)

pub returns-clause-yes : goal.returns-clause-yes
returns-clause-yes c = λ k s known last.
    let test = c.loop-i-test.false in let end = c.len-i-end.ensures in let ok = c.self.inside.seats.ok in
    let seen = ap (λ (d : ClosedView). length d.seats) c.self.view_is in
    all_over k c.args.self.now.words c.args.self.now.seats (c.stands.ensures k known) (λ j t below has. c.loop-i.invariant j t (omega (arith, below, test, end, ok, seen)) has) s last
