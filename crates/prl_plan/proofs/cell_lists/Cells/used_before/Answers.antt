use Rattle.prl_base.proofs.Standard.{◌≡◌, ◌+◌, ◌-◌, ◌*◌, ◌/◌, ◌%◌, ◌<◌, ◌≤◌, ℕ, length, sum, take, refl, sym, ap, subst, arith, slice_index_or}
use Rattle.prl_plan.specs.Vocabulary.{no_used, Used, CountsUsed}
use Rattle.prl_plan.proofs.PlaceLaws.{Known, known, some_total, rest_below, number, counts_at}
use Rattle.prl_plan.proofs.cell_lists.Cells.used_before.Goals as goal
use Rattle.prl_plan.proofs.cell_lists.Cells.used_before.Goals.{After-gaps_to-last, After-sum_of-total}

-- what the calls tell
known_here : (c : After-sum_of-total) → Known (slice_index_or c.args.self.now.used c.args.e.0 no_used) (c.args.m - 1) c.len-gaps.result c.sum_of-total.result
known_here c =
    known _ _ (c.args.m - 1) c.len-gaps.result c.sum_of-total.result c.used-used.ensures c.requires.order c.len-gaps.ensures (λ zero. omega (arith, zero, c.if-gaps-eq0.false))
    (omega (arith, c.if-m-used.false)) c.sum_of-total.ensures

counted : (used now : Used) (m gaps total last : ℕ) → now ≡ used → (k : Known used (m - 1) gaps total) → now.first < m → last < length used.gaps → sum (take last used.gaps) ≤ (m - 1 - now.first) % total →
    (m - 1 - now.first) % total < sum (take (last + 1) used.gaps) →
    CountsUsed used m ((m - 1 - now.first) / total * gaps + last + 1) × ((m - 1 - now.first) / total * gaps + last < m)
counted used now m gaps total last same k first below low high =
    let f = ap (λ (u : Used). (m - 1 - u.first) % total) same in
    let n = number used (m - 1) gaps total k ((m - 1 - used.first) % total) refl in
    let c = counts_at k.edge used k.all (m - 1) ((m - 1 - used.first) / total) last below (omega (arith, n, f, low)) (omega (arith, n, f, high)) in
    let e : m - 1 + 1 ≡ m = omega (arith, first) in
    let g : (m - 1 - used.first) / total * length used.gaps + last + 1 ≡ (m - 1 - used.first) / total * gaps + last + 1 = ap (λ (x : ℕ). (m - 1 - used.first) / total * x + last + 1) (sym k.long) in
    rw same (subst (λ (x : ℕ). CountsUsed used x ((m - 1 - used.first) / total * gaps + last + 1)) e (subst (λ (x : ℕ). CountsUsed used (m - 1 + 1) x) g c.0), omega (arith, g, c.1, first))

counted_here : (c : After-gaps_to-last) (k : Known (slice_index_or c.args.self.now.used c.args.e.0 no_used) (c.args.m - 1) c.len-gaps.result c.sum_of-total.result) →
    CountsUsed (slice_index_or c.args.self.now.used c.args.e.0 no_used) c.args.m ((c.args.m - 1 - c.used-used.result.now.first) / c.sum_of-total.result * c.len-gaps.result + c.gaps_to-last.result + 1)
    × ((c.args.m - 1 - c.used-used.result.now.first) / c.sum_of-total.result * c.len-gaps.result + c.gaps_to-last.result < c.args.m)
counted_here c k = counted _ _ c.args.m _ _ c.gaps_to-last.result c.used-used.ensures k c.if-m-used.false c.gaps_to-last.ensures.inside c.gaps_to-last.ensures.reached c.gaps_to-last.ensures.not_passed

pub nonzero_div-result : goal.nonzero_div-result
nonzero_div-result c = omega (arith, some_total _ _ _ _ (known_here (goal.at.nonzero_div-result c).After-sum_of-total))

pub nonzero_rem-past : goal.nonzero_rem-past
nonzero_rem-past c = omega (arith, some_total _ _ _ _ (known_here (goal.at.nonzero_rem-past c).After-sum_of-total))

pub gaps_to-last-requires-clause-rest : goal.gaps_to-last-requires-clause-rest
gaps_to-last-requires-clause-rest c =
    let f = ap (λ (u : Used). (c.args.m - 1 - u.first) % c.sum_of-total.result) c.used-used.ensures in
    omega (arith, rest_below _ _ _ _ (known_here (goal.at.gaps_to-last-requires-clause-rest c).After-sum_of-total), f)

pub returns : goal.returns
returns c = (counted_here (goal.at.returns c).After-gaps_to-last (known_here (goal.at.returns c).After-sum_of-total)).0

pub overflow_add-result : goal.overflow_add-result
overflow_add-result c =
    omega (arith, (counted_here (goal.at.overflow_add-result c).After-gaps_to-last (known_here (goal.at.overflow_add-result c).After-sum_of-total)).1, c.requires.small)

pub overflow_add-result-2 : goal.overflow_add-result-2
overflow_add-result-2 c =
    let k = known_here (goal.at.overflow_add-result-2 c).After-sum_of-total in
    omega (arith, (counted_here (goal.at.overflow_add-result-2 c).After-gaps_to-last k).1, c.requires.small)

pub overflow_mul-result : goal.overflow_mul-result
overflow_mul-result c =
    omega (arith, (counted_here (goal.at.overflow_mul-result c).After-gaps_to-last (known_here (goal.at.overflow_mul-result c).After-sum_of-total)).1, c.requires.small)
