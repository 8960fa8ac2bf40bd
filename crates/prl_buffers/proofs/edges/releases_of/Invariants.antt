use Rattle.std.proofs.Common.{◌≡◌, ◌+◌, ◌-◌, ◌<◌, ◌^◌, ℕ, length, min, sum, take, slice_index}
use Rattle.prl_buffers.specs.code.Edges.{release_in}
use Rattle.prl_buffers.proofs.edges.releases_of.Given as goal

abbrev pub invariant-loop-gap : goal.invariant-loop-gap
invariant-loop-gap l = record {
  number : l.m ≡ l.fn.first + sum (take l.gap-index l.gaps);
  long : length l.releases.items ≡ l.gap-index;
  each : (x : ℕ) → x < l.gap-index → slice_index l.releases.items x ≡ min (release_in l.fn.graph l.dates l.fn.i.0 (l.fn.first + sum (take x l.gaps))) (2 ^ 64 - 1);
}
