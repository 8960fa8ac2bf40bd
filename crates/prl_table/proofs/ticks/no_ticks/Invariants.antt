use Rattle.std.specs.Prelude.{◌≡◌, [], length}
use Rattle.prl_edf.specs.Pieces.{run_of}
use Rattle.prl_table.specs.code.Ticks.{HasTicks}
use Rattle.prl_table.proofs.ticks.no_ticks.Given as goal

-- the ticks so far go to no job
abbrev pub invariant-loop-n : goal.invariant-loop-n
invariant-loop-n l = record {
  long : length l.ticks.items ≡ l._n;
  ticks : HasTicks (run_of []) l.ticks.items;
}
