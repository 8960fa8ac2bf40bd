use Rattle.std.specs.Prelude.{◌≡◌, ◌≤◌, ◌&&◌, max, ℕ, Option, Some, length, slice_get, nat_le, nat_lt, if◌then◌else◌}
use Rattle.prl_base.specs.declared.numbers.TaskNo.{TaskNo}
use Rattle.prl_table.specs.Vocabulary.{job_in, HasTicks}
use Rattle.prl_table.proofs.ticks.fill.Given as goal

-- the ticks of the piece so far
abbrev pub invariant-loop-t : goal.invariant-loop-t
invariant-loop-t l = record {
  long : length l.ticks.items ≡ length l.fn.ticks.items;
  near : l.t ≤ max l.piece.from l.end;
  ticks : (run : ℕ → Option (ℕ × ℕ)) → HasTicks run l.fn.ticks.items → (u : ℕ) (tick : Option (TaskNo × ℕ)) → slice_get l.ticks.items u ≡ Some tick →
      job_in tick ≡ (if nat_le l.piece.from u && nat_lt u l.t then Some (l.piece.task.0, l.piece.job) else run u);
}
