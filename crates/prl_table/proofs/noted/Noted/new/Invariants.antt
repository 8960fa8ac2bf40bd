use Rattle.std.proofs.Common.{◌≡◌, ◌<◌, ℕ, [], length, map, vec_items, slice_index_or}
use Rattle.prl_plan.specs.Vocabulary.{constants_of}
use Rattle.prl_table.proofs.noted.Noted.new.Given as goal

-- the tasks so far have their lists
abbrev pub invariant-loop-i : goal.invariant-loop-i
invariant-loop-i l = record {
  long : length l.ticks.items ≡ l.i;
  each : (j : ℕ) → j < l.i → length (slice_index_or (map vec_items l.ticks.items) j []) ≡ (constants_of l.plan l.horizon).jobs j;
}
