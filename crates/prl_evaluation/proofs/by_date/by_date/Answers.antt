use Rattle.std.proofs.Common.{◌∙◌, ◌≤◌, ℕ, List, Option, arith, subst, sym}
use Rattle.prl_base.specs.declared.operators.Clock.{Clock}
use Rattle.prl_calendar.specs.Calendars.{AreAllClocks, HasDate, Tells}
use Rattle.prl_evaluation.specs.code.Dates.{AreAt}
use Rattle.prl_evaluation.proofs.ByDate.{at_later, clocks_are, full_at}
use Rattle.prl_evaluation.proofs.by_date.by_date.Goals as goal

pub new-requires-clause-periods : goal.new-requires-clause-periods
new-requires-clause-periods c =
    subst AreAllClocks (sym c.in_ok-clocks.ensures ∙ sym c.as_slice.ensures.value)
    (clocks_are c.args.setting.now c.requires.set c.args.rest.now c.args.flows.now c.requires.rest)

pub advance_due-requires-clause-at : goal.advance_due-requires-clause-at
advance_due-requires-clause-at c =
    let told = subst (λ (o : Option ℕ). Tells c.loop-due.calendar o c.next.new.due.items c.next.new.self) c.in-Some.is c.in_ok-date.ensures.told in
    at_later c.args.setting.now c.requires.set c.args.rest.now c.loop-due.flows c.loop-due.calendar.from c.in-Some.date c.loop-due.invariant.1 told.0.from
    (λ i u date late. told.0.first i u (subst (λ (cs : List Clock). HasDate cs i u) (sym c.loop-due.invariant.3) date) late) c.loop-due.invariant.2

pub returns-clause-full : goal.returns-clause-full
returns-clause-full c =
    let told = subst (λ (o : Option ℕ). Tells c.loop-due.calendar o c.next.new.due.items c.next.new.self) c.in_default.is c.in_ok-date.ensures.told in
    let at : AreAt c.args.setting.now c.args.rest.now c.loop-due.flows c.args.setting.now.until =
    at_later c.args.setting.now c.requires.set c.args.rest.now c.loop-due.flows c.loop-due.calendar.from c.args.setting.now.until c.loop-due.invariant.1 c.loop-due.invariant.5
    (λ i u date late. subst (λ t. t ≤ u) c.loop-due.invariant.4 (told.0 i u (subst (λ (cs : List Clock). HasDate cs i u) (sym c.loop-due.invariant.3) date) late)) c.loop-due.invariant.2 in
    full_at c.args.setting.now c.requires.set c.args.rest.now c.loop-due.flows c.loop-due.invariant.1 at

pub loop-due-preserved : goal.loop-due-preserved
loop-due-preserved c =
    let told = subst (λ (o : Option ℕ). Tells c.loop-due.calendar o c.next.new.due.items c.next.new.self) c.in-Some.is c.in_ok-date.ensures.told in
    rw told.2 (c.in_ok-advance_due.ensures.under_way, c.in_ok-advance_due.ensures.rest, c.in_ok-advance_due.ensures.at, c.loop-due.invariant.3, c.loop-due.invariant.4, omega (arith, told.0.before, c.loop-due.invariant.4))
