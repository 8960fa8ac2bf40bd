use Rattle.std.proofs.Common.{◌≡◌, ◌<◌, ℕ, Some, length}
use Rattle.prl_flow.specs.Solutions.{clock_of}
use Rattle.prl_clock.specs.Vocabulary.{IsWholeClock, standing_at, Timing}
use Rattle.prl_clock.proofs.calculus.whole_clocks.Given as goal

abbrev pub invariant-loop-i : goal.invariant-loop-i
invariant-loop-i l = record {
  len : length l.clocks.items ≡ l.i;
  whole : (x : ℕ) → x < l.i → (t : Timing) × ((standing_at l.standings x).clock ≡ Some t) × IsWholeClock t (clock_of l.clocks.items x);
}
