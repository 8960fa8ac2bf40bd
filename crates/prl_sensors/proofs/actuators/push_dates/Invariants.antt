use Rattle.std.proofs.Common.{◌≡◌, ◌≤◌, ◌-◌, map}
use Rattle.prl_flow.specs.Actuators.{actuator_text}
use Rattle.prl_sensors.proofs.actuators.push_dates.Given as goal

abbrev pub invariant-dates : goal.invariant-dates
invariant-dates l =
    (l.text.items ≡ actuator_text l.calendar.from l.outs)
    × (l.calendar.clocks ≡ map (λ out. out.clock) l.outs)
    × (l.calendar.until ≡ l.initial.calendar.until)
    × (l.calendar.from ≤ l.initial.calendar.until)

abbrev pub decreases-dates : goal.decreases-dates
decreases-dates l = l.initial.calendar.until - l.calendar.from
