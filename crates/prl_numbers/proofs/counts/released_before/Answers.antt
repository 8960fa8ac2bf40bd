use Rattle.prl_base.proofs.Standard.{◌≡◌, ◌+◌, ◌-◌, ◌*◌, ◌/◌, ◌%◌, ◌≤◌, ℕ, arith, slice_index, mod-add-div', mod_below}
use Rattle.prl_numbers.proofs.Rises.{counted}
use Rattle.prl_numbers.proofs.counts.released_before.Goals as goal

pub returns-clause-count : goal.returns-clause-count
returns-clause-count c =
    let first : ℕ = slice_index c.args.releases.now 0 in
    let past : ℕ = c.args.date - 1 - slice_index c.args.releases.now 0 in
    let split : (c.args.date - 1 - slice_index c.args.releases.now 0) % c.args.hyper + (c.args.date - 1 - slice_index c.args.releases.now 0) / c.args.hyper * c.args.hyper
    ≡ c.args.date - 1 - slice_index c.args.releases.now 0 = mod-add-div' (c.args.date - 1 - slice_index c.args.releases.now 0) c.args.hyper in
    let some : 1 ≤ c.args.hyper = (let a = c.requires.released.some in let b = c.requires.released.few in omega (arith, a, b)) in
    let below = mod_below (c.args.date - 1 - slice_index c.args.releases.now 0) c.args.hyper some in
    let late = c.if-date-releases.false in
    let e = c.count_before-rest.ensures in
    counted c.args.releases.now c.args.hyper c.requires.released ((c.args.date - 1 - slice_index c.args.releases.now 0) / c.args.hyper) c.count_before-rest.result c.args.date
    e.within (omega (arith, split, late)) (omega (arith, split, below, late)) e.before e.after
