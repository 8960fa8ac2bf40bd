use Rattle.prl_base.proofs.Standard.{◌∙◌, length, ap, subst, arith, slice_get}
use Rattle.prl_rule.specs.Told.{LookTold}
use Rattle.prl_board.specs.Lones.{LoneView}
use Rattle.prl_board.proofs.Called.{clock_call, kept_after_clock, lent_of, lone_after, look_is_exact, may_lend}
use Rattle.prl_board.proofs.lone.Lone.look.Goals as goal

pub look_lent-requires-clause-whole : goal.look_lent-requires-clause-whole
look_lent-requires-clause-whole g c = may_lend c.self.view_is c.requires.lone c.self.invariant.0

pub look_lent-requires-clause-lent : goal.look_lent-requires-clause-lent
look_lent-requires-clause-lent g c = (lent_of c.self.view_is c.requires.lone c.self.invariant.1).ticks

pub look_lent-requires-clause-task : goal.look_lent-requires-clause-task
look_lent-requires-clause-task g c =
    let seen = ap (λ (l : LoneView). length l.seats) c.self.view_is in
    omega (arith, (lent_of c.self.view_is c.requires.lone c.self.invariant.1).tasks, seen, c.requires.task)

pub invariant_of-self : goal.invariant_of-self
invariant_of-self g c = (c.look_lent.ensures.same.1, kept_after_clock (lent_of c.self.view_is c.requires.lone c.self.invariant.1) c.look_lent.ensures.returned)

pub returns-clause-lone : goal.returns-clause-lone
returns-clause-lone g c = lone_after c.self.view_is c.requires.lone c.look_lent.ensures.same.0 c.look_lent.ensures.returned.known

pub returns-clause-call : goal.returns-clause-call
returns-clause-call g c = clock_call c.self.view_is c.look_lent.ensures.returned

pub returns-clause-told : goal.returns-clause-told
returns-clause-told g c = λ r has.
    subst (λ (l : LoneView). LookTold c.args.board.now.known c.args.task.0 r l.view c.look_lent.result c.look_lent.new.whole.me.0) c.self.view_is
    (c.look_lent.ensures.told r (ap (λ (l : LoneView). l.view.clock) c.self.view_is ∙ has))

pub returns-clause-exact : goal.returns-clause-exact
returns-clause-exact g c = λ s has.
    let lent = lent_of c.self.view_is c.requires.lone c.self.invariant.1 in
    let its = lent.each c.args.task.0 s (ap (λ (l : LoneView). slice_get l.seats c.args.task.0) c.self.view_is ∙ has) in
    look_is_exact c.args.board.now.known c.args.task.0 lent.ticks.part.0 c.self.inside.whole.me.0 c.look_lent.new.whole.me.0 c.look_lent.result s
    (c.look_lent.ensures.told lent.ticks.part.0 lent.ticks.part.1) its.stands
