use Rattle.std.proofs.Common.{◌≡◌, ◌<◌, ◌∙◌, ℕ, length, get_or, refl, sym, arith}
use Rattle.std.proofs.lemmas.List.Elements.{Contains-get_or}
use Rattle.prl_clock.specs.Vocabulary.{IsMoved, standing_at}
use Rattle.prl_flow.proofs.StandingsAt.{item_is}
use Rattle.prl_clock.proofs.Terms.{on_err}
use Rattle.prl_clock.proofs.Loops.{all_changed, moved_past, moved_twice, none_changed, one_more}
use Rattle.prl_clock.proofs.standings.move_these.Goals as goal

pub bounds-standings-x : goal.bounds-standings-x
bounds-standings-x c =
    let here : c.loop-flow.flow-index < length c.args.flows.now = omega arith in
    let w = c.requires.flows _ (Contains-get_or c.args.flows.now c.loop-flow.flow-index 0 here) in omega (arith, w)

pub bounds-standings-x-in-loop-flow : goal.bounds-standings-x-in-loop-flow
bounds-standings-x-in-loop-flow c =
    let here : c.loop-flow.flow-index < length c.args.flows.now = omega arith in
    let w = c.requires.flows _ (Contains-get_or c.args.flows.now c.loop-flow.flow-index 0 here) in omega (arith, w)

pub returns-in_err-standings-clause-past : goal.returns-in_err-standings-clause-past
returns-in_err-standings-clause-past c =
    let here : c.loop-flow.flow-index < length c.args.flows.now = omega arith in
    let m : ℕ = get_or c.args.flows.now c.loop-flow.flow-index 0 in
    let w : m < length c.args.standings.now = c.requires.flows _ (Contains-get_or c.args.flows.now c.loop-flow.flow-index 0 here) in
    let e : standing_at c.loop-flow.standings m ≡ c.index-standings-x.result = item_is c.loop-flow.standings m c.index-standings-x.result (omega (arith, w)) ∙ sym c.index-standings-x.is in
    on_err c.from_residual.result _
    (moved_past c.args.standings.now c.loop-flow.standings m c.index-standings-x.result e w c.args.high c.args.low c.args.shift.now c.requires.apart c.loop-flow.invariant.changed c.in_err-standings.ensures.past)

pub loop-flow-init : goal.loop-flow-init
loop-flow-init c = record { changed = none_changed (IsMoved c.args.high c.args.low c.args.shift.now) c.args.standings.now; done = λ j h. absurd (omega (arith, h)) }

pub loop-flow-preserved : goal.loop-flow-preserved
loop-flow-preserved c =
    let here : c.loop-flow.flow-index < length c.args.flows.now = omega arith in
    let m : ℕ = get_or c.args.flows.now c.loop-flow.flow-index 0 in
    let w : m < length c.args.standings.now = c.requires.flows _ (Contains-get_or c.args.flows.now c.loop-flow.flow-index 0 here) in
    let within : m < length c.loop-flow.standings = omega (arith, w) in
    let e : standing_at c.loop-flow.standings m ≡ c.index-standings-x.result = item_is c.loop-flow.standings m c.index-standings-x.result within ∙ sym c.index-standings-x.is in
    one_more (IsMoved c.args.high c.args.low c.args.shift.now) (moved_twice c.args.high c.args.low c.args.shift.now c.requires.apart) c.args.standings.now c.loop-flow.standings m c.in_ok-standings.field-0 within
    c.loop-flow.invariant.changed c.index-standings-x.result e c.in_ok-standings.ensures.moved c.args.flows.now c.loop-flow.flow-index refl c.loop-flow.invariant.done

pub returns-clause-moved : goal.returns-clause-moved
returns-clause-moved c = all_changed (IsMoved c.args.high c.args.low c.args.shift.now) c.args.flows.now c.args.standings.now c.loop-flow.standings c.loop-flow.flow-index (omega arith) c.loop-flow.invariant
