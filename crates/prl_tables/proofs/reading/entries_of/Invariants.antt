use Rattle.std.proofs.Common.{◌≡◌, ◌+◌, ◌≤◌, None, length, vec_items}
use Rattle.prl_base.specs.Lines.{lines_of}
use Rattle.prl_tables.specs.TableTexts.{entries_from}
use Rattle.prl_tables.proofs.TextLines.{with_front}
use Rattle.prl_tables.proofs.reading.entries_of.Given as goal

-- the entries so far and those of the lines that are left are those of all lines
abbrev pub invariant-loop-line : goal.invariant-loop-line
invariant-loop-line l = record {
  told : with_front (vec_items l.entries) (entries_from l.number l.last (lines_of l.rest)) ≡ entries_from 3 None (lines_of l.text);
  few : l.number + length l.rest ≤ length l.text + 3;
}

abbrev pub decreases-loop-line : goal.decreases-loop-line
decreases-loop-line l = length l.rest
