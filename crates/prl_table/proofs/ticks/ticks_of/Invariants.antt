use Rattle.std.specs.Prelude.{◌≡◌, ◌-◌, drop, length}
use Rattle.prl_edf.specs.Pieces.{run_of}
use Rattle.prl_table.specs.code.Ticks.{HasTicks}
use Rattle.prl_table.proofs.ticks.ticks_of.Given as goal

-- the ticks of the last pieces
abbrev pub invariant-loop-back : goal.invariant-loop-back
invariant-loop-back l = record {
  long : length l.ticks.items ≡ l.until;
  ticks : HasTicks (run_of (drop (length l.pieces - l.back) l.pieces)) l.ticks.items;
}
