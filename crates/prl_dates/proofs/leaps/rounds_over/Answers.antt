use Rattle.prl_base.proofs.Standard.{◌≡◌, ◌+◌, ◌-◌, ◌≤◌, ◌∙◌, ℕ, List, length, sym, subst, arith}
use Rattle.prl_dates.specs.Vocabulary.{AreBests, IsRound, dates_of, AreRound, AreRounds}
use Rattle.prl_dates.proofs.BestRounds.{still_bests}
use Rattle.prl_dates.proofs.Repeats.{rounds_up, rounds_next, bests_more, within_more, bests_after, within_after}
use Rattle.prl_dates.proofs.TableRounds.{round_of_tables}
use Rattle.prl_dates.proofs.leaps.rounds_over.Goals as goal

pub returns-then-branch-clause-bests : goal.returns-then-branch-clause-bests
returns-then-branch-clause-bests c =
    let graph = c.args.graph.now in
    let lanes = c.args.lanes.now in
    let now : List ℕ = c.loop-count.now in
    let t : ℕ = c.loop-count.count in
    let same : c.advance.new.now ≡ now = c.in_ok-advance.ensures.still c.if-branch.true in
    let round : AreRound graph lanes (length lanes) now now = subst (λ (xs : List ℕ). AreRound graph lanes (length lanes) now xs) same c.in_ok-advance.ensures.round in
    let still : IsRound graph (dates_of graph now) (dates_of graph now) = round_of_tables graph c.requires.well lanes c.requires.lanes now now round c.loop-count.invariant.bests.rises in
    subst (λ (xs : List ℕ). AreBests graph c.args.most (dates_of graph xs)) (sym same)
    (subst (λ (n : ℕ). AreBests graph n (dates_of graph now)) (let e : t + (c.args.most - t) ≡ c.args.most = omega (arith, c.loop-count.invariant.within) in e)
    (still_bests graph c.requires.well (dates_of graph now) still t (c.args.most - t) c.loop-count.invariant.bests))

pub look_back-count-requires-clause-small : goal.look_back-count-requires-clause-small
look_back-count-requires-clause-small c q =
    omega (arith, within_more c.args.graph.now c.args.lanes.now c.requires.well c.requires.lanes c.loop-count.count c.loop-count.now c.advance.new.now c.loop-count.invariant.small c.in_ok-advance.ensures.round q, c.loop-count-test.true, c.requires.few)

pub loop-count-preserved-then-len-now : goal.loop-count-preserved-then-len-now
loop-count-preserved-then-len-now c =
    let graph = c.args.graph.now in
    let lanes = c.args.lanes.now in
    let t : ℕ = c.loop-count.count + 1 in
    let done : ℕ = c.look_back-count.result in
    let new : List ℕ = c.look_back-count.new.now in
    let more : AreRounds graph lanes (done - t) c.advance.new.now new = c.look_back-count.ensures.rounds in
    let later : t ≤ done = c.look_back-count.ensures.within.0 in
    record {
      within = c.look_back-count.ensures.within.1;
      long = (rounds_up graph lanes (done - t) c.advance.new.now new more).0 ∙ c.in_ok-advance.ensures.round.long ∙ c.loop-count.invariant.long;
      bests =
          subst (λ (n : ℕ). AreBests graph n (dates_of graph new)) (let e : t + (done - t) ≡ done = omega (arith, later) in e)
          (bests_after graph lanes c.requires.well c.requires.lanes (done - t) t c.advance.new.now new (bests_more c.args.graph.now c.args.lanes.now c.requires.well c.requires.lanes c.loop-count.count c.loop-count.now c.advance.new.now c.loop-count.invariant.bests c.in_ok-advance.ensures.round) more);
      small = λ q. (let w = within_after graph lanes c.requires.well c.requires.lanes (done - t) t c.advance.new.now new (within_more c.args.graph.now c.args.lanes.now c.requires.well c.requires.lanes c.loop-count.count c.loop-count.now c.advance.new.now c.loop-count.invariant.small c.in_ok-advance.ensures.round) more q in omega (arith, w, later));
      settled = c.look_back-count.ensures.settled c.advance.new.rises.last.items c.in_ok-advance.ensures.settled;
      copy = c.look_back-count.ensures.copy;
      before = c.look_back-count.ensures.past.0;
      rounds = c.look_back-count.ensures.past.1;
    }

pub loop-count-preserved : goal.loop-count-preserved
loop-count-preserved c =
    record {
      within = omega (arith, c.loop-count-test.true);
      long = c.in_ok-advance.ensures.round.long ∙ c.loop-count.invariant.long;
      bests =
          bests_more c.args.graph.now c.args.lanes.now c.requires.well c.requires.lanes c.loop-count.count c.loop-count.now c.advance.new.now c.loop-count.invariant.bests c.in_ok-advance.ensures.round;
      small =
          within_more c.args.graph.now c.args.lanes.now c.requires.well c.requires.lanes c.loop-count.count c.loop-count.now c.advance.new.now c.loop-count.invariant.small c.in_ok-advance.ensures.round;
      settled = c.in_ok-advance.ensures.settled;
      copy = c.in_ok-advance.ensures.copy;
      before = omega (arith, c.loop-count.invariant.before);
      rounds =
          rounds_next c.args.graph.now c.args.lanes.now c.loop-count.past.rounds c.loop-count.count c.loop-count.past.table.items c.loop-count.now c.advance.new.now c.loop-count.invariant.before c.loop-count.invariant.rounds
          c.in_ok-advance.ensures.round;
    }
