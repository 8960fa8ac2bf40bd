use Rattle.std.proofs.Common.{◌≡◌, drop, length}
use Rattle.prl_cores.specs.Processors.{all_placed}
use Rattle.prl_cores.proofs.Placing.{with_front}
use Rattle.prl_cores.proofs.texts.all_placed.Given as goal

-- the processors so far and those of the tasks that are left are those of all tasks
abbrev pub invariant-loop-i : goal.invariant-loop-i
invariant-loop-i l = record {
  told : with_front l.processors.items (all_placed l.i (drop l.i l.table)) ≡ all_placed 0 l.table;
  long : length l.processors.items ≡ l.i;
}
