use Rattle.std.proofs.Common.{◌≡◌, ℕ, length, map, vec_items}
use Rattle.prl_clock.specs.Vocabulary.{alone, standing_at}
use Rattle.prl_clock.proofs.Listing.{AreSingle}
use Rattle.prl_clock.proofs.standings.Standings.alone.Given as goal

abbrev pub invariant-loop-x : goal.invariant-loop-x
invariant-loop-x l = record {
  len : length l.of.items ≡ l.x;
  alone : (x : ℕ) → standing_at l.of.items x ≡ alone x;
  lists : AreSingle (map vec_items l.lists.items) l.x;
}
