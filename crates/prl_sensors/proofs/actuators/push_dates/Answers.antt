use Rattle.prl_base.proofs.Standard.{◌≡◌, ◌≤◌, ◌+◌, ◌++◌, ◌<◌, ℕ, List, [], Option, map, subst, sym, ◌∙◌, ap, arith, flat_map}
use Rattle.prl_base.specs.declared.operators.Clock.{Clock}
use Rattle.prl_calendar.specs.Calendars.{AreDue, HasDate, Tells}
use Rattle.prl_flow.specs.Actuators.{actuator_text, row_at, row_text}
use Rattle.prl_flow.specs.declared.programs.OutFlow.{OutFlow}
use Rattle.prl_sensors.proofs.DueRows.{none_due}
use Rattle.prl_sensors.proofs.RowDates.{actuator_text_skip, actuator_text_more}
use Rattle.prl_sensors.proofs.actuators.push_dates.Goals as goal

pub push_rows_at-requires-clause-due : goal.push_rows_at-requires-clause-due
push_rows_at-requires-clause-due c =
    let told = subst (λ (o : Option ℕ). Tells c.dates.calendar o c.next.new.due.items c.next.new.self) c.in-Some.is c.in_ok-date.ensures.told in
    subst (λ (due : List ℕ). AreDue (map (λ (out : OutFlow). out.clock) c.args.outs.now) c.in-Some.date due) (sym c.as_slice.ensures.value)
    (subst (λ (cs : List Clock). AreDue cs c.in-Some.date c.next.new.due.items) c.dates.invariant.1 told.1)

pub dates-preserved : goal.dates-preserved
dates-preserved c =
    let outs = c.args.outs.now in
    let date = c.in-Some.date in
    let told = subst (λ (o : Option ℕ). Tells c.dates.calendar o c.next.new.due.items c.next.new.self) c.in-Some.is c.in_ok-date.ensures.told in
    let none : (t : ℕ) → c.dates.calendar.from ≤ t → t < date → flat_map (row_at t) outs ≡ [] =
    λ t from before. none_due outs t (λ i has. let h = told.0.first i t (subst (λ (cs : List Clock). HasDate cs i t) (sym c.dates.invariant.1) has) from in omega (arith, h, before)) in
    let text : c.push_rows_at.new.text.items ≡ actuator_text (date + 1) outs =
    c.in_ok-push_rows_at.ensures ∙ ap (λ (bytes : List ℕ). bytes ++ flat_map row_text (flat_map (row_at date) outs)) (c.dates.invariant.0 ∙ sym (actuator_text_skip outs c.dates.calendar.from date told.0.from none))
    ∙ sym (actuator_text_more outs date) in
    let new = told.2 in
    rw new (text, c.dates.invariant.1, c.dates.invariant.2, omega (arith, told.0.before, c.dates.invariant.2))

pub returns : goal.returns
returns c =
    let outs = c.args.outs.now in
    let told = subst (λ (o : Option ℕ). Tells c.dates.calendar o c.next.new.due.items c.next.new.self) c.in_default.is c.in_ok-date.ensures.told in
    c.dates.invariant.0
    ∙ sym (actuator_text_skip outs c.dates.calendar.from c.args.calendar.now.until c.dates.invariant.3 (λ t from before. none_due outs t (λ i has.
    let h = told.0 i t (subst (λ (cs : List Clock). HasDate cs i t) (sym c.dates.invariant.1) has) from in omega (arith, h, before, c.dates.invariant.2))))
