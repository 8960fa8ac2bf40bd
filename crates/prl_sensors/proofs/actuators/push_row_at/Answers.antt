use Rattle.prl_base.proofs.Standard.{◌≡◌, ◌-◌, ◌/◌, ◌++◌, true, OnOk, suc, length, slice_get, None, Some, refl, subst, sym, arith, flat_map, leb-true, append-nil, slice_get_past, slice_get_read}
use Rattle.prl_base.specs.Clocks.{IsClock, IsDate}
use Rattle.prl_flow.specs.Actuators.{is_date, row_at, row_text}
use Rattle.prl_flow.specs.declared.programs.OutFlow.{OutFlow}
use Rattle.prl_sensors.proofs.DueRows.{date_is, row_none, row_some}
use Rattle.prl_sensors.proofs.actuators.push_row_at.Goals as goal
use Rattle.prl_sensors.proofs.actuators.push_row_at.Goals.{After-get}

-- the flow as it stands, and that the date is one of its clock
abbrev out_of : After-get → OutFlow
out_of c = record { name = c.out.inside.name.now; clock = c.out.inside.clock; values = c.out.inside.values.now }

dated : (c : After-get) → is_date (out_of c).clock c.args.date ≡ true
dated c =
    date_is (out_of c).clock c.args.date (subst (λ (o : OutFlow). IsClock o.clock) (sym c.out.view_is) c.requires.clock)
    (subst (λ (o : OutFlow). IsDate o.clock c.args.date) (sym c.out.view_is) c.requires.date)

pub returns-in-Some : goal.returns-in-Some
returns-in-Some c =
    let d = (goal.at.returns-in-Some c).After-get in
    let out = out_of d in
    let i = (c.args.date - out.clock.start) / out.clock.period in
    let within = leb-true (suc i) (length out.values) (sym c.in-Some.ensures.lookup.0) in
    let found : slice_get out.values i ≡ Some c.in-Some.value.now =
    slice_get_read out.values (length out.values) i c.in-Some.value.now refl (omega (arith, within)) c.in-Some.ensures.lookup.1 in
    subst (λ (o : OutFlow). OnOk c.push_row.result (c.push_row.new.text.items ≡ c.args.text.now.items ++ flat_map row_text (row_at c.args.date o))) c.out.view_is
    (rw (row_some out c.args.date c.in-Some.value.now (dated d) found)
    (subst (λ (o : OutFlow). OnOk c.push_row.result (c.push_row.new.text.items ≡ c.args.text.now.items ++ row_text (record { name = o.name; instance = i; date = c.args.date; value = c.in-Some.value.now }))) (sym c.out.view_is) c.push_row.ensures))

pub returns-in-None : goal.returns-in-None
returns-in-None c =
    let d = (goal.at.returns-in-None c).After-get in
    let out = out_of d in
    let none : slice_get out.values ((c.args.date - out.clock.start) / out.clock.period) ≡ None = slice_get_past out.values _ c.in-None.ensures.lookup.3 in
    subst (λ (o : OutFlow). c.args.text.now.items ≡ c.args.text.now.items ++ flat_map row_text (row_at c.args.date o)) c.out.view_is
    (rw (row_none out c.args.date (dated d) none) (sym (append-nil c.args.text.now.items)))
