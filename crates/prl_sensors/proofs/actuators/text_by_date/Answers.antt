use Rattle.std.proofs.Common.{ap, subst, sym, ◌∙◌}
use Rattle.prl_calendar.specs.Calendars.{AreAllClocks, CalendarView}
use Rattle.prl_flow.specs.Actuators.{actuator_text}
use Rattle.prl_sensors.proofs.DueRows.{clocks_are}
use Rattle.prl_sensors.proofs.RowDates.{EndsBefore_from_AreUpTo, no_rows_after_end, actuator_text_skip}
use Rattle.prl_sensors.proofs.actuators.text_by_date.Goals as goal

pub new-requires-clause-periods : goal.new-requires-clause-periods
new-requires-clause-periods c =
    subst AreAllClocks (sym c.in_ok-clocks.ensures ∙ sym c.as_slice.ensures.value) (clocks_are c.end_of-end.result c.args.outs.now c.end_of-end.ensures.ends)

pub returns : goal.returns
returns c = λ until up_to.
    let outs = c.args.outs.now in
    let end = c.end_of-end.result in
    c.in_ok-push_dates.ensures ∙ ap (λ (v : CalendarView). actuator_text v.until outs) c.in_ok-calendar.ensures
    ∙ sym (actuator_text_skip outs end until (c.end_of-end.ensures.least until (EndsBefore_from_AreUpTo until outs up_to)) (λ t from before. no_rows_after_end end outs t c.end_of-end.ensures.ends from))
