use Rattle.prl_base.proofs.Standard.{◌≡◌, ℕ, Some, length, slice_index_or, pos, slice_get}
use Rattle.prl_dates.specs.Vocabulary.{Link, IsLinkOf}
use Rattle.prl_dates.proofs.lanes.links.Given as goal

abbrev pub invariant-loop-n : goal.invariant-loop-n
invariant-loop-n l = record {
  long : length l.links.items ≡ l.n;
  each : (k : ℕ) (link : Link) → slice_get l.links.items k ≡ Some link → IsLinkOf l.graph l.from.0 l.to.0 (pos k) (slice_index_or l.numbers k (pos 0)) link;
}
