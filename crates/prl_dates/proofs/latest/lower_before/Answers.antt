use Rattle.prl_base.proofs.Standard.{◌≡◌, ◌+◌, ℕ, List, sym, ap, subst, arith, slice_get, Some}
use Rattle.prl_dates.specs.Vocabulary.{Lane, HoldsAt}
use Rattle.prl_dates.proofs.Lowering.{LoweredSoFar, lowered_none, so_far_more}
use Rattle.prl_dates.proofs.Readings.{item_stands}
use Rattle.prl_dates.proofs.latest.lower_before.Goals as goal
use Rattle.prl_dates.proofs.latest.lower_before.Goals.{in-Some+in_ok-lower_one, in_default}

pub lower_one-requires-clause-lane : goal.lower_one-requires-clause-lane
lower_one-requires-clause-lane c =
    c.requires.lanes.each c.loop-l.l c.index-lanes-l.result (item_stands c.args.lanes.now c.loop-l.l c.index-lanes-l.result c.loop-l-test.true c.index-lanes-l.is)

pub lower_one-requires-clause-floor : goal.lower_one-requires-clause-floor
lower_one-requires-clause-floor c =
    c.requires.floor c.loop-l.l c.index-lanes-l.result c.loop-l-test.true (item_stands c.args.lanes.now c.loop-l.l c.index-lanes-l.result c.loop-l-test.true c.index-lanes-l.is) c.in-Some.k
    c.in-Some.ensures.0

pub loop-l-preserved : goal.loop-l-preserved
loop-l-preserved c =
    let graph = c.args.graph.now in
    let lanes = c.args.lanes.now in
    let floor : List ℕ = c.args.floor.now in
    let old : List ℕ = c.args.dates.now in
    let before : List ℕ = c.args.fell.now.items in
    let l : ℕ = c.loop-l.l in
    let lane : Lane = c.index-lanes-l.result in
    let stands : slice_get lanes l ≡ Some lane = item_stands lanes l lane c.loop-l-test.true c.index-lanes-l.is in
    elim c.match-place_of.branch [
      | in-Some+in_ok-lower_one w ↦
          subst (λ (xs : List ℕ). LoweredSoFar graph lanes floor (l + 1) c.args.job old before xs c.match-place_of.fell.items) (sym w.dates-is)
          (subst (λ (ys : List ℕ). LoweredSoFar graph lanes floor (l + 1) c.args.job old before w.lower_one.new.dates ys) (sym (ap (λ v. v.items) w.fell-is))
          (so_far_more graph lanes floor l c.args.job old before c.loop-l.dates c.loop-l.fell.items c.loop-l.invariant lane stands w.lower_one.new.dates w.lower_one.new.fell.items
          w.in_ok-lower_one.ensures.dates w.in_ok-lower_one.ensures.lowered
          (λ k inside to. subst (λ (x : ℕ). HoldsAt graph lane w.lower_one.new.dates w.lower_one.new.fell.items x)
          (let e : w.in-Some.k ≡ k = omega (arith, to, w.in-Some.ensures.1) in e) w.in_ok-lower_one.ensures.holds)))
      | in_default w ↦
          subst (λ (xs : List ℕ). LoweredSoFar graph lanes floor (l + 1) c.args.job old before xs c.match-place_of.fell.items) (sym w.dates-is)
          (subst (λ (ys : List ℕ). LoweredSoFar graph lanes floor (l + 1) c.args.job old before c.loop-l.dates ys) (sym (ap (λ v. v.items) w.fell-is))
          (so_far_more graph lanes floor l c.args.job old before c.loop-l.dates c.loop-l.fell.items c.loop-l.invariant lane stands c.loop-l.dates c.loop-l.fell.items
          c.loop-l.invariant.dates (lowered_none graph c.loop-l.dates c.loop-l.fell.items) (λ k inside to. absurd (w.in_default.ensures k inside to))))
    ]
