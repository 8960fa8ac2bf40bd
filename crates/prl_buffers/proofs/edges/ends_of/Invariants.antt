use Rattle.std.proofs.Common.{◌≡◌, ◌+◌, ◌<◌, ℕ, length, slice_index}
use Rattle.prl_buffers.specs.code.Edges.{deadline_in}
use Rattle.prl_buffers.proofs.edges.ends_of.Given as goal

abbrev pub invariant-loop-job : goal.invariant-loop-job
invariant-loop-job l = record {
  long : length l.ends.items ≡ l.job-index;
  each : (x : ℕ) → x < l.job-index → slice_index l.ends.items x ≡ deadline_in l.fn.graph l.dates l.fn.i.0 (l.fn.from + slice_index l.jobs x);
}
