use Rattle.std.specs.Prelude.{◌≡◌, ◌<◌, ℕ, length, slice_index}
use Rattle.prl_tables.specs.Tables.{classes}
use Rattle.prl_tablefaults.proofs.loads.all_classes.Given as goal

-- the numbers of the first tasks stand in the list
abbrev pub invariant-loop-i : goal.invariant-loop-i
invariant-loop-i l = (length l.counts.items ≡ l.i) × ((k : ℕ) → k < l.i → slice_index l.counts.items k ≡ classes l.plan.graph k)
