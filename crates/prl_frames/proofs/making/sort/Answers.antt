use Rattle.prl_base.proofs.Standard.{rules, IsNonDecreasingBy-from_sort_by_key}
use Rattle.prl_frames.specs.declared.slots.Slot.{Slot}
use Rattle.prl_frames.proofs.making.sort.Goals as goal

pub returns-clause-sorted : goal.returns-clause-sorted
returns-clause-sorted c = IsNonDecreasingBy-from_sort_by_key (λ (slot : Slot). slot.at) _ c.sort_unstable_by_key.ensures.sorted (λ a r q k. search rules)
