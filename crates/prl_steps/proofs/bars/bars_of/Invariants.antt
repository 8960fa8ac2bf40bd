use Rattle.std.proofs.Common.{◌≡◌, ◌-◌, drop, length}
use Rattle.prl_steps.specs.declared.bars.TheConstants.{COLUMNS}
use Rattle.prl_steps.specs.Bars.{bars_of}
use Rattle.prl_steps.proofs.bars.bars_of.Given as goal

-- the bars of the steps that were passed, which are the last ones
abbrev pub invariant-loop-k : goal.invariant-loop-k
invariant-loop-k l = record {
  told : l.bars.items ≡ bars_of l.scale (drop (l.count - l.k) l.steps);
  wide : length l.bars.items ≡ COLUMNS;
}
