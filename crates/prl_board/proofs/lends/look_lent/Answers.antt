use Rattle.std.proofs.Common.{sym, ap, subst, ◌∙◌}
use Rattle.prl_rule.specs.Told.{LookTold}
use Rattle.prl_rule.specs.declared.views.View.{View}
use Rattle.prl_board.proofs.Called.{clock_returned}
use Rattle.prl_board.proofs.lends.look_lent.Goals as goal

pub look-ended-requires-clause-seat : goal.look-ended-requires-clause-seat
look-ended-requires-clause-seat c = (c.requires.lent.part.0, c.lend_clock.ensures.taken c.requires.lent.part.0 c.requires.lent.part.1)

pub returns-clause-same : goal.returns-clause-same
returns-clause-same c = (
  c.take_back_clock.ensures.given.0 ∙ c.look-ended.ensures.same.0 ∙ (c.lend_clock.ensures.taken c.requires.lent.part.0 c.requires.lent.part.1).table ∙ sym c.requires.whole.0,
  ap (λ m. m.1) c.take_back_clock.ensures.given.1,
)

pub returns-clause-told : goal.returns-clause-told
returns-clause-told c = λ r has.
    let P : View × View → Type 0 = λ z. LookTold c.args.board.now.known c.args.task.0 r z.0 c.look-ended.result z.1 in
    subst P (λ h. (c.lend_clock.ensures.view h, (sym c.take_back_clock.ensures.given.1 h).0)) (c.look-ended.ensures.told r (c.lend_clock.ensures.taken r has))

pub returns-clause-returned : goal.returns-clause-returned
returns-clause-returned c =
    let told = c.look-ended.ensures.told c.requires.lent.part.0 (c.lend_clock.ensures.taken c.requires.lent.part.0 c.requires.lent.part.1) in
    clock_returned c.args.board.now c.args.whole.now.me.0 c.take_back_clock.new.whole.me.0 c.look-ended.new.self c.take_back_clock.new.clock c.look-ended.ensures.seat.0 c.look-ended.ensures.seat.1
    (ap (λ (v : View). v.tasks) told.view ∙ ap (λ (v : View). v.tasks) c.lend_clock.ensures.view) (ap (λ m. m.0) c.take_back_clock.ensures.given.1) c.take_back_clock.ensures.lent
