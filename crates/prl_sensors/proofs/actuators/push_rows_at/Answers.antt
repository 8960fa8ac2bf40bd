use Rattle.prl_base.proofs.Standard.{◌≡◌, ◌++◌, ℕ, List, length, slice_get, slice_index_or, take, refl, sym, ◌∙◌, ap, subst, flat_map, take_all, slice_get_read}
use Rattle.prl_base.specs.Clocks.{IsClock}
use Rattle.prl_flow.specs.Actuators.{row_at, row_text}
use Rattle.prl_flow.specs.declared.programs.OutFlow.{OutFlow}
use Rattle.prl_sensors.proofs.DueRows.{dated, due_place, due_rows, due_within, row_of, rows_more}
use Rattle.prl_sensors.proofs.actuators.push_rows_at.Goals as goal

pub bounds-outs-place : goal.bounds-outs-place
bounds-outs-place c = due_within c.args.outs.now c.args.date c.args.due.now c.requires.due c.loop-place.place-index c.loop-place-test.true

pub push_row_at-requires-clause-clock : goal.push_row_at-requires-clause-clock
push_row_at-requires-clause-clock c =
    let place = slice_index_or c.args.due.now c.loop-place.place-index 0 in
    let within = due_within c.args.outs.now c.args.date c.args.due.now c.requires.due c.loop-place.place-index c.loop-place-test.true in
    subst (λ (out : OutFlow). IsClock out.clock) (sym c.index-outs-place.is) (c.requires.clocks place c.index-outs-place.result within)

pub push_row_at-requires-clause-date : goal.push_row_at-requires-clause-date
push_row_at-requires-clause-date c =
    let place = slice_index_or c.args.due.now c.loop-place.place-index 0 in
    let within = due_within c.args.outs.now c.args.date c.args.due.now c.requires.due c.loop-place.place-index c.loop-place-test.true in
    due_place c.args.outs.now c.args.date c.args.due.now c.requires.due c.loop-place.place-index c.loop-place-test.true c.index-outs-place.result
    (slice_get_read c.args.outs.now (length c.args.outs.now) place c.index-outs-place.result refl within c.index-outs-place.is)

pub loop-place-preserved : goal.loop-place-preserved
loop-place-preserved c =
    let place = slice_index_or c.args.due.now c.loop-place.place-index 0 in
    let within = due_within c.args.outs.now c.args.date c.args.due.now c.requires.due c.loop-place.place-index c.loop-place-test.true in
    let found = slice_get_read c.args.outs.now (length c.args.outs.now) place c.index-outs-place.result refl within c.index-outs-place.is in
    c.in_ok-push_row_at.ensures ∙ ap (λ (bytes : List ℕ). bytes ++ flat_map row_text (row_at c.args.date c.index-outs-place.result)) c.loop-place.invariant
    ∙ rows_more c.args.text.now.items c.args.outs.now c.args.date c.args.due.now c.loop-place.place-index c.loop-place-test.true c.index-outs-place.result found

pub returns : goal.returns
returns c =
    let all : take c.loop-place.place-index c.args.due.now ≡ c.args.due.now = take_all c.loop-place.place-index c.args.due.now c.loop-place-test.false in
    c.loop-place.invariant
    ∙ ap (λ (due : List ℕ). c.args.text.now.items ++ flat_map row_text (flat_map (λ p. row_of c.args.date (slice_get c.args.outs.now p)) due)) all
    ∙ ap (λ rows. c.args.text.now.items ++ flat_map row_text rows) (due_rows c.args.outs.now c.args.date c.args.due.now c.requires.due (dated c.args.outs.now c.args.date))
