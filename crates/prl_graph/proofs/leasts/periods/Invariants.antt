use Rattle.std.proofs.Common.{◌≡◌, ◌<◌, ℕ, length}
use Rattle.prl_graph.proofs.LeastDues.{HasPeriod}
use Rattle.prl_graph.proofs.leasts.periods.Given as goal

abbrev pub invariant-loop-app : goal.invariant-loop-app
invariant-loop-app l = record {
  count : length l.periods.items ≡ l.app-index;
  each : (k : ℕ) → k < l.app-index → HasPeriod l.flat l.clocks.of l.periods.items k;
}
