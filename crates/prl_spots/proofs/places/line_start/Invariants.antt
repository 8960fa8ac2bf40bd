use Rattle.std.proofs.Common.{◌≡◌, ◌<◌, ◌≤◌, ◌+◌, ℕ}
use Rattle.prl_spots.specs.Places.{place_of}
use Rattle.prl_spots.proofs.places.line_start.Given as goal

-- the number is that of the line of the byte that comes, and the bytes that were passed are of earlier lines
abbrev pub invariant-loop-i : goal.invariant-loop-i
invariant-loop-i l = record {
  here : l.number ≡ (place_of l.text l.i).line;
  few : l.number ≤ l.i + 1;
  passed : (before : ℕ) → before < l.i → (place_of l.text before).line < l.line;
  left : l.number ≤ l.line;
}
