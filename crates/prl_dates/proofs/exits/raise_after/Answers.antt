use Rattle.prl_base.proofs.Standard.{◌≡◌, ◌-◌, ◌<◌, ℕ, List, length, sym, ap, subst, arith}
use Rattle.prl_dates.specs.Vocabulary.{Exit, IsExit, IsLinkInside, exit_at}
use Rattle.prl_dates.proofs.Rises.{ExitsAsked, exits_asked_end}
use Rattle.prl_dates.proofs.exits.raise_after.Goals as goal

pub raise_one-requires-clause-inside : goal.raise_one-requires-clause-inside
raise_one-requires-clause-inside c =
    let lanes = c.args.lanes.now in
    let a : ℕ = c.loop-count.count - 1 in
    let below : a < length c.args.exits.now.list =
    omega (arith, c.loop-count.invariant.asked.within, c.loop-count-test.true, ap (λ (xs : List Exit). length xs) c.as_slice-list.ensures) in
    let is : IsExit lanes (exit_at c.args.exits.now.list a) = c.requires.exits.each a below in
    subst (λ (xs : List Exit). IsLinkInside lanes (exit_at xs a).lane (exit_at xs a).place) (sym c.as_slice-list.ensures) (is.0, is.1, is.2)

pub returns-clause-asks : goal.returns-clause-asks
returns-clause-asks c = λ l lane k stands inside from.
    (let graph = c.args.graph.now in
    let lanes = c.args.lanes.now in
    let none : c.loop-count.count ≡ 0 = omega arith in
    let asked : ExitsAsked graph lanes c.args.exits.now.list c.args.job 0 c.args.now.now c.loop-count.next =
    subst (λ (n : ℕ). ExitsAsked graph lanes c.args.exits.now.list c.args.job n c.args.now.now c.loop-count.next) none
    (subst (λ (xs : List Exit). ExitsAsked graph lanes xs c.args.job c.loop-count.count c.args.now.now c.loop-count.next) c.as_slice-list.ensures c.loop-count.invariant.asked) in
    exits_asked_end graph lanes c.args.exits.now.list c.args.exits.now.last c.requires.exits c.args.job c.args.now.now c.loop-count.next asked l lane k stands inside from)
