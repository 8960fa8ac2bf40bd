use Rattle.prl_base.proofs.Standard.{◌≡◌, ◌+◌, ◌-◌, ◌*◌, ◌/◌, ◌%◌, ◌<◌, ◌≤◌, ℕ, Some, length, sum, take, sym, ◌∙◌, ap, arith, slice_index_or}
use Rattle.prl_plan.specs.Vocabulary.{Used, no_used, place_of}
use Rattle.prl_plan.proofs.PlaceLaws.{none_without_gaps, place_before, enumerated, Known, known, some_total, rest_below, is_at, is_not}
use Rattle.prl_plan.proofs.cell_lists.Cells.place.Goals as goal
use Rattle.prl_plan.proofs.cell_lists.Cells.place.Goals.{After-sum_of-total}

pub returns-then-gaps-eq0 : goal.returns-then-gaps-eq0
returns-then-gaps-eq0 c =
    let long : c.len-gaps.result ≡ length (slice_index_or c.args.self.now.used c.args.e.0 no_used).gaps = c.len-gaps.ensures ∙ ap (λ (u : Used). length u.gaps) c.used-used.ensures in
    sym (none_without_gaps (slice_index_or c.args.self.now.used c.args.e.0 no_used) c.args.m (omega (arith, long, c.if-gaps-eq0.true)))

pub returns-then-m-used : goal.returns-then-m-used
returns-then-m-used c =
    let long : c.len-gaps.result ≡ length (slice_index_or c.args.self.now.used c.args.e.0 no_used).gaps = c.len-gaps.ensures ∙ ap (λ (u : Used). length u.gaps) c.used-used.ensures in
    let f = ap (λ (u : Used). u.first) c.used-used.ensures in
    let e = enumerated (slice_index_or c.args.self.now.used c.args.e.0 no_used) c.len-gaps.result c.requires.order long (λ none. omega (arith, none, c.if-gaps-eq0.false)) in
    sym (place_before e.0 (slice_index_or c.args.self.now.used c.args.e.0 no_used) e.1 c.args.m (omega (arith, f, c.if-m-used.true)))

-- what the calls tell
known_here : (c : After-sum_of-total) → Known (slice_index_or c.args.self.now.used c.args.e.0 no_used) c.args.m c.len-gaps.result c.sum_of-total.result
known_here c =
    known _ _ c.args.m c.len-gaps.result c.sum_of-total.result c.used-used.ensures c.requires.order c.len-gaps.ensures (λ zero. omega (arith, zero, c.if-gaps-eq0.false)) c.if-m-used.false
    c.sum_of-total.ensures

pub nonzero_rem-past : goal.nonzero_rem-past
nonzero_rem-past c = omega (arith, some_total _ _ _ _ (known_here (goal.at.nonzero_rem-past c).After-sum_of-total))

pub gaps_to-last-requires-clause-rest : goal.gaps_to-last-requires-clause-rest
gaps_to-last-requires-clause-rest c =
    let f = ap (λ (u : Used). (c.args.m - u.first) % c.sum_of-total.result) c.used-used.ensures in
    omega (arith, rest_below _ _ _ _ (known_here (goal.at.gaps_to-last-requires-clause-rest c).After-sum_of-total), f)

pub returns-then-sum_of-past : goal.returns-then-sum_of-past
returns-then-sum_of-past c =
    let k = known_here (goal.at.returns-then-sum_of-past c).After-sum_of-total in
    let f = ap (λ (u : Used). (c.args.m - u.first) % c.sum_of-total.result) c.used-used.ensures in
    let e = c.gaps_to-last.ensures in
    is_not (slice_index_or c.args.self.now.used c.args.e.0 no_used) c.args.m c.len-gaps.result c.sum_of-total.result k c.gaps_to-last.result e.inside
    (λ same. c.if-sum_of-past.true (c.sum_of.ensures ∙ same ∙ sym f)) (omega (arith, e.reached, f)) (omega (arith, e.not_passed, f))

at_last : (used now : Used) (m gaps total last reached : ℕ) → now ≡ used → (k : Known used m gaps total) → last < length used.gaps → reached ≡ sum (take last used.gaps) → reached ≡ (m - now.first) % total →
    (Some ((m - now.first) / total * gaps + last) ≡ place_of used m) × ((m - now.first) / total * gaps + last ≤ m)
at_last used now m gaps total last reached same k below sum_is is = rw same (is_at used m gaps total k last below (sym sum_is ∙ is ∙ ap (λ (u : Used). (m - u.first) % total) same))

pub returns : goal.returns
returns c =
    let k = known_here (goal.at.returns c).After-sum_of-total in
    (at_last _ _ c.args.m _ _ c.gaps_to-last.result _ c.used-used.ensures k c.gaps_to-last.ensures.inside c.sum_of.ensures c.if-sum_of-past.false).0

pub overflow_add-result : goal.overflow_add-result
overflow_add-result c =
    let k = known_here (goal.at.overflow_add-result c).After-sum_of-total in
    omega (arith, (at_last _ _ c.args.m _ _ c.gaps_to-last.result _ c.used-used.ensures k c.gaps_to-last.ensures.inside c.sum_of.ensures c.if-sum_of-past.false).1, c.ranges.m.fits)

pub overflow_mul-result : goal.overflow_mul-result
overflow_mul-result c =
    let k = known_here (goal.at.overflow_mul-result c).After-sum_of-total in
    omega (arith, (at_last _ _ c.args.m _ _ c.gaps_to-last.result _ c.used-used.ensures k c.gaps_to-last.ensures.inside c.sum_of.ensures c.if-sum_of-past.false).1, c.ranges.m.fits)
