use Rattle.std.proofs.Common.{◌≡◌, ◌<◌, ◌+◌, ◌++◌, ◌∷◌, [], List, ℕ, is_ok, length, length-append, Some, sym, ap, ◌∙◌, subst, arith}
use Rattle.prl_base.specs.declared.operators.Clock.{Clock}
use Rattle.prl_flow.specs.Solutions.{clock_of}
use Rattle.prl_clock.specs.Vocabulary.{IsWholeClock, Timing, standing_at, Standing}
use Rattle.prl_flow.proofs.StandingsAt.{item_is}
use Rattle.prl_clock.proofs.Finishing.{not_whole_is, whole_are, clock_pushed, if_true}
use Rattle.prl_clock.proofs.calculus.whole_clocks.Goals as goal
use Rattle.prl_clock.proofs.calculus.whole_clocks.Goals.{After-index-standings-i}

here : (c : After-index-standings-i) → standing_at c.args.standings.now c.loop-i.i ≡ c.index-standings-i.result
here c = item_is c.args.standings.now c.loop-i.i c.index-standings-i.result (omega arith) ∙ sym c.index-standings-i.is

pub unreachable-requires : goal.unreachable-requires
unreachable-requires c =
    let d = (goal.at.unreachable-requires c).After-index-standings-i in
    let t = c.requires.timed c.loop-i.i (omega (arith, c.loop-i-test.true)) in
    c.in_default.not-Some t.0 (sym (ap (λ (s : Standing). s.clock) (here d)) ∙ t.1)

pub returns-in-None-clause-fault : goal.returns-in-None-clause-fault
returns-in-None-clause-fault c =
    let d = (goal.at.returns-in-None-clause-fault c).After-index-standings-i in
    not_whole_is c.args.flat.now c.args.standings.now c.requires.reached c.requires.timed c.loop-i.i c.in_ok-label_of-in-None.field-0 c.in-Some.timing
    (ap (λ (s : Standing). s.clock) (here d) ∙ c.in-Some.is) c.in-None.ensures
    (λ x h. let w = c.loop-i.invariant.whole x h in (w.0, w.1, w.2.whole)) c.in_ok-label_of-in-None.ensures

pub loop-i-preserved : goal.loop-i-preserved
loop-i-preserved c =
    let d = (goal.at.loop-i-preserved c).After-index-standings-i in
    let pushed : c.push.new.self.items ≡ c.loop-i.clocks.items ++ c.in-Some-whole_clock.clock ∷ [] =
    if_true (is_ok c.push.result) _ _ _ (sym c.map_err.ensures.variant ∙ ap is_ok c.in_ok-map_err-in-Some-whole_clock.was) c.push.ensures.items in
    let len = c.loop-i.invariant.len in
    let more = clock_pushed c.loop-i.clocks.items c.in-Some-whole_clock.clock c.args.standings.now c.loop-i.i c.in-Some.timing len
    (ap (λ (s : Standing). s.clock) (here d) ∙ c.in-Some.is) c.in-Some-whole_clock.ensures c.loop-i.invariant.whole in
    let P : List Clock → Type 0 = λ xs.
    (x : ℕ) → x < c.loop-i.i + 1 → (u : Timing) × ((standing_at c.args.standings.now x).clock ≡ Some u) × IsWholeClock u (clock_of xs x) in
    record {
      len = let e = ap length pushed in let l = length-append c.loop-i.clocks.items (c.in-Some-whole_clock.clock ∷ []) in omega (arith, e, l, len);
      whole = subst P (sym pushed) more;
    }

pub returns-clause-clocks : goal.returns-clause-clocks
returns-clause-clocks c =
    let e = c.loop-i.invariant.len in let a = c.loop-i-test.false in let b = c.loop-i.auto.i-end in
    whole_are c.args.flat.now c.flows-flows.ensures.well_formed c.args.standings.now c.loop-i.clocks.items c.requires.reached (omega (arith, e, a, b))
    (λ x h. c.loop-i.invariant.whole x (omega (arith, h, a, b)))
