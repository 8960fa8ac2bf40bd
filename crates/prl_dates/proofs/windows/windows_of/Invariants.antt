use Rattle.std.proofs.Common.{◌≡◌, ◌+◌, ◌<◌, ℕ, length, slice_index_or}
use Rattle.prl_plan.specs.Dates.{no_window}
use Rattle.prl_dates.specs.Vocabulary.{jobs_before, window_of}
use Rattle.prl_dates.proofs.windows.windows_of.Given as goal

abbrev pub invariant-loop-p : goal.invariant-loop-p
invariant-loop-p l = record {
  long : length l.list.items ≡ l.p;
  each : (k : ℕ) → k < l.p → slice_index_or l.list.items k no_window ≡ window_of l.graph l.fn.i.0 l.bests l.tails (jobs_before l.graph l.fn.i.0 + k);
}
