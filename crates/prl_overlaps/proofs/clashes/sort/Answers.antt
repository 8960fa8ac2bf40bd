use Rattle.prl_base.proofs.Standard.{rules, IsNonDecreasingBy-from_sort_by_key}
use Rattle.prl_overlaps.proofs.Spotted.{spots_permuted}
use Rattle.prl_overlaps.proofs.clashes.sort.Goals as goal

pub returns-clause-spots : goal.returns-clause-spots
returns-clause-spots c = spots_permuted c.args.hyper c.args.entries.now _ _ c.sort_unstable_by_key.ensures.permutation c.requires

pub returns-clause-sorted : goal.returns-clause-sorted
returns-clause-sorted c = IsNonDecreasingBy-from_sort_by_key (λ spot. spot.from) _ c.sort_unstable_by_key.ensures.sorted (λ a r q k. search rules)
