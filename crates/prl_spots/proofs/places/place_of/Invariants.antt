use Rattle.std.proofs.Common.{◌≡◌, ◌≤◌, ◌+◌}
use Rattle.prl_spots.specs.Places.{place_of}
use Rattle.prl_spots.proofs.places.place_of.Given as goal

-- the line and the column are those of the byte after the ones that were passed
abbrev pub invariant-loop-byte : goal.invariant-loop-byte
invariant-loop-byte l = record {
  line : l.line ≡ (place_of l.byte-items l.byte-index).line;
  column : l.column ≡ (place_of l.byte-items l.byte-index).column;
  few : l.line ≤ l.byte-index + 1;
  within : l.column ≤ l.byte-index + 1;
}
