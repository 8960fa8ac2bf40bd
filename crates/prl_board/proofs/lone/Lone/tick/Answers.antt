use Rattle.std.proofs.Common.{◌∙◌, ap, subst}
use Rattle.prl_board.specs.Lones.{IsTicked, LoneView}
use Rattle.prl_board.proofs.Called.{clock_call, kept_after_clock, lent_of, lone_after, may_lend}
use Rattle.prl_board.proofs.lone.Lone.tick.Goals as goal

pub tick_lent-requires-clause-whole : goal.tick_lent-requires-clause-whole
tick_lent-requires-clause-whole g c = may_lend c.self.view_is c.requires.lone c.self.invariant.0

pub tick_lent-requires-clause-lent : goal.tick_lent-requires-clause-lent
tick_lent-requires-clause-lent g c = (lent_of c.self.view_is c.requires.lone c.self.invariant.1).ticks

pub invariant_of-self : goal.invariant_of-self
invariant_of-self g c = (c.tick_lent.ensures.same.1, kept_after_clock (lent_of c.self.view_is c.requires.lone c.self.invariant.1) c.tick_lent.ensures.returned)

pub returns-clause-lone : goal.returns-clause-lone
returns-clause-lone g c = lone_after c.self.view_is c.requires.lone c.tick_lent.ensures.same.0 c.tick_lent.ensures.returned.known

pub returns-clause-call : goal.returns-clause-call
returns-clause-call g c = clock_call c.self.view_is c.tick_lent.ensures.returned

pub returns-clause-answer : goal.returns-clause-answer
returns-clause-answer g c = λ r has.
    subst (λ (l : LoneView). IsTicked c.args.board.now.known r l.view c.tick_lent.new.whole.me.0 c.tick_lent.result) c.self.view_is
    (c.tick_lent.ensures.answer r (ap (λ (l : LoneView). l.view.clock) c.self.view_is ∙ has))
