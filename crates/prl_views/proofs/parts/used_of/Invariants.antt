use Rattle.prl_base.proofs.Standard.{◌≡◌, ◌≤◌, ◌++◌, ◌-◌, length, flat_map, range_with_len}
use Rattle.prl_views.specs.declared.parts.TheConstants.{MOST_PROCESSORS}
use Rattle.prl_views.specs.Parts.{used_of, used_one}
use Rattle.prl_views.proofs.parts.used_of.Given as goal

-- the processors so far and those that are left are all that have tasks
abbrev pub invariant-loop-processor : goal.invariant-loop-processor
invariant-loop-processor l = record {
  told : l.used.items ++ flat_map (used_one l.processors) (range_with_len l.processor (MOST_PROCESSORS - l.processor)) ≡ used_of l.processors;
  few : length l.used.items ≤ l.processor;
}
