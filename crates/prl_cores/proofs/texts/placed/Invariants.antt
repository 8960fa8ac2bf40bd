use Rattle.std.proofs.Common.{◌≡◌, ◌+◌, ◌≤◌, length, replicate, None}
use Rattle.prl_base.specs.Lines.{lines_of}
use Rattle.prl_cores.specs.Processors.{placed_from}
use Rattle.prl_cores.proofs.texts.placed.Given as goal

-- the lines that are left lead from the table so far to where all lines lead
abbrev pub invariant-loop-line : goal.invariant-loop-line
invariant-loop-line l = record {
  told : placed_from l.names l.number l.table.items (lines_of l.rest) ≡ placed_from l.names 1 (replicate (length l.names) None) (lines_of l.text);
  long : length l.table.items ≡ length l.names;
  few : l.number + length l.rest ≤ length l.text + 1;
}

abbrev pub decreases-loop-line : goal.decreases-loop-line
decreases-loop-line l = length l.rest
