use Rattle.std.proofs.Common.{◌≡◌, ◌≤◌, drop, length}
use Rattle.prl_hints.specs.Places.{last_open}
use Rattle.prl_hints.proofs.places.last_open.Given as goal

-- from what was found so far on the rest leads to the same place
abbrev pub invariant-loop-i : goal.invariant-loop-i
invariant-loop-i l = record {
  same : last_open l.open l.i (drop l.i l.text) ≡ last_open 0 0 l.text;
  within : l.open ≤ length l.text;
}
