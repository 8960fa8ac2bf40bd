use Rattle.std.proofs.Common.{◌≡◌, ◌<◌, ℕ, [], length, map, vec_items, replicate, min, slice_index_or}
use Rattle.prl_plan.specs.Vocabulary.{constants_of, task_at}
use Rattle.test_calls.proofs.units.units_up_to.Given as goal

-- the tasks so far have their lists
abbrev pub invariant-loop-i : goal.invariant-loop-i
invariant-loop-i l = record {
  long : length l.lists.items ≡ l.i;
  each : (j : ℕ) → j < l.i →
      slice_index_or (map vec_items l.lists.items) j [] ≡ replicate ((constants_of l.plan l.horizon).jobs j) (min (task_at l.plan.graph j).wcet l.most);
}
