use Rattle.std.specs.Prelude.{◌≡◌, ℕ, List, Some, length, map, slice_get, vec_items}
use Rattle.prl_tables.specs.Vocabulary.{Sums, AreTaskSums}
use Rattle.prl_tables.proofs.sums.all_sums.Given as goal

-- the lists of the tasks so far
abbrev pub invariant-loop-i : goal.invariant-loop-i
invariant-loop-i l = record {
  tasks : length (map vec_items l.lists.items) ≡ l.i;
  each : (i : ℕ) (list : List Sums) → slice_get (map vec_items l.lists.items) i ≡ Some list → AreTaskSums l.plan l.entries i list;
}
