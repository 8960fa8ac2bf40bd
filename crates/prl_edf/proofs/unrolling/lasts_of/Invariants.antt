use Rattle.std.proofs.Common.{◌≡◌, ◌-◌, ◌<◌, ℕ, None, length, drop, reverse, slice_index_or}
use Rattle.prl_edf.specs.code.Lasts.{next_job, lasts_in}
use Rattle.prl_edf.proofs.unrolling.lasts_of.Given as goal

-- the pieces so far, from the last on
abbrev pub invariant-loop-back : goal.invariant-loop-back
invariant-loop-back l = record {
  lasts : l.lasts.items ≡ reverse (lasts_in (drop (length l.pieces - l.back) l.pieces));
  long : length l.seen.items ≡ l.fn.tasks;
  seen : (i : ℕ) → i < l.fn.tasks → slice_index_or l.seen.items i None ≡ next_job (drop (length l.pieces - l.back) l.pieces) i;
}
