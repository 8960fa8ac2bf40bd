use Rattle.std.proofs.Common.{sym, ap, ◌∙◌}
use Rattle.prl_rule.specs.declared.views.View.{View}
use Rattle.prl_board.proofs.Called.{clock_returned, tick_leaves, ticked_by}
use Rattle.prl_board.proofs.lends.tick_lent.Goals as goal

pub tick-answer-requires : goal.tick-answer-requires
tick-answer-requires c = (c.requires.lent.part.0, c.lend_clock.ensures.taken c.requires.lent.part.0 c.requires.lent.part.1)

pub returns-clause-same : goal.returns-clause-same
returns-clause-same c = (
  c.take_back_clock.ensures.given.0 ∙ c.tick-answer.ensures.same.0 ∙ (c.lend_clock.ensures.taken c.requires.lent.part.0 c.requires.lent.part.1).table ∙ sym c.requires.whole.0,
  ap (λ m. m.1) c.take_back_clock.ensures.given.1,
)

pub returns-clause-answer : goal.returns-clause-answer
returns-clause-answer c = λ r has.
    ticked_by c.args.board.now.known r c.args.whole.now.me.0 c.take_back_clock.new.whole.me.0 c.lend_clock.new.clock c.tick-answer.new.self c.tick-answer.result c.lend_clock.ensures.view
    (ap (λ m. m.0) c.take_back_clock.ensures.given.1) (c.tick-answer.ensures.answer r (c.lend_clock.ensures.taken r has))

pub returns-clause-returned : goal.returns-clause-returned
returns-clause-returned c =
    let told = c.tick-answer.ensures.answer c.requires.lent.part.0 (c.lend_clock.ensures.taken c.requires.lent.part.0 c.requires.lent.part.1) in
    clock_returned c.args.board.now c.args.whole.now.me.0 c.take_back_clock.new.whole.me.0 c.tick-answer.new.self c.take_back_clock.new.clock c.tick-answer.ensures.seat.0 c.tick-answer.ensures.seat.1
    (tick_leaves c.args.board.now.known c.requires.lent.part.0 c.lend_clock.new.clock c.tick-answer.new.self c.tick-answer.result told ∙ ap (λ (v : View). v.tasks) c.lend_clock.ensures.view) (ap (λ m. m.0) c.take_back_clock.ensures.given.1)
    c.take_back_clock.ensures.lent
