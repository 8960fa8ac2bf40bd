use Rattle.std.proofs.Common.{◌≡◌, ◌∙◌, refl, sym, ap, subst, arith}
use Rattle.prl_flow.specs.Actuators.{AreUpTo, actuator_text}
use Rattle.prl_stages.specs.declared.ran.Ran.TheVariants as runs
use Rattle.prl_stages.specs.Ran.{IsRunText}
use Rattle.prl_calls.specs.Stops.{given_of}
use Rattle.prl_executions.specs.Ready.{IsTextOf}
use Rattle.prl_executions.proofs.Preparing.{ShownLaws, horizon_there, known_of, shown_up_to, text_of_is}
use Rattle.prl_calls.proofs.Stops.{ok_map}
use Rattle.prl_executions.proofs.running.text_of.Goals as goal

pub shown_flows-requires : goal.shown_flows-requires
shown_flows-requires c = (known_of c.args.ready.now c.args.gate, c.requires.known, refl)

pub actuator_text-requires : goal.actuator_text-requires
actuator_text-requires c =
    let g = given_of c.args.request.now in
    let r = c.args.ready.now in
    let k = known_of r c.args.gate in
    let law : ShownLaws = record { flows = c.ended_boards_show_flows.ensures.flows; up_to = c.ended_boards_show_flows.ensures.up_to } in
    let small = (horizon_there g r c.requires.ready).until in
    let up = shown_up_to g r c.requires.ready law c.args.gate c.args.closed.now c.requires.known c.requires.ended (c.stands.ensures k c.requires.known)
    c.in_ok-flows.flows.items c.in_ok-flows.ensures in
    (r.horizon.until, omega (arith, small), subst (AreUpTo r.horizon.until) (sym c.deref.ensures.value) up)

pub returns-clause-of : goal.returns-clause-of
returns-clause-of c =
    let g = given_of c.args.request.now in
    let r = c.args.ready.now in
    let k = known_of r c.args.gate in
    let law : ShownLaws = record { flows = c.ended_boards_show_flows.ensures.flows; up_to = c.ended_boards_show_flows.ensures.up_to } in
    let stands = c.stands.ensures k c.requires.known in
    let up = shown_up_to g r c.requires.ready law c.args.gate c.args.closed.now c.requires.known c.requires.ended stands c.in_ok-flows.flows.items c.in_ok-flows.ensures in
    ok_map c.actuator_text.result (λ text. text.items ≡ actuator_text r.horizon.until c.deref.result.now)
    (λ text. IsTextOf g r c.args.gate text.items (runs.Ended c.args.closed.now))
    (λ text is. text_of_is g r c.requires.ready law c.args.gate c.args.closed.now c.requires.known c.requires.ended stands c.in_ok-flows.flows.items c.in_ok-flows.ensures
    text.items (is ∙ ap (actuator_text r.horizon.until) c.deref.ensures.value))
    (c.actuator_text.ensures r.horizon.until (subst (AreUpTo r.horizon.until) (sym c.deref.ensures.value) up))

pub returns-clause-text : goal.returns-clause-text
returns-clause-text c =
    let g = given_of c.args.request.now in
    ok_map c.actuator_text.result (λ text. IsTextOf g c.args.ready.now c.args.gate text.items (runs.Ended c.args.closed.now))
    (λ text. IsRunText g c.args.gate text.items (runs.Ended c.args.closed.now)) (λ text of. (of.0, of.2)) (returns-clause-of c)
