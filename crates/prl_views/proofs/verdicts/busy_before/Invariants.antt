use Rattle.std.proofs.Common.{◌≡◌, ◌+◌, ◌-◌, ◌≤◌, ◌^◌, drop, min}
use Rattle.prl_views.specs.Loads.{busy_before}
use Rattle.prl_views.proofs.verdicts.busy_before.Given as goal

-- the ticks so far and those of the pieces that are left are all
abbrev pub invariant-loop-piece : goal.invariant-loop-piece
invariant-loop-piece l = record {
  told : min (l.busy + busy_before l.end (drop l.piece-index l.pieces)) (2 ^ 64 - 1) ≡ min (busy_before l.end l.pieces) (2 ^ 64 - 1);
  small : l.busy ≤ 2 ^ 64 - 1;
}
