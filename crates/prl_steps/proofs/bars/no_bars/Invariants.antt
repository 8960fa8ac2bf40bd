use Rattle.std.proofs.Common.{◌≡◌, [], length}
use Rattle.prl_drawing.specs.declared.scales.Scale.{Scale}
use Rattle.prl_steps.specs.Bars.{columns_of}
use Rattle.prl_steps.proofs.bars.no_bars.Given as goal

-- the bars so far are none, one for each column that was passed
abbrev pub invariant-loop : goal.invariant-loop
invariant-loop l = record {
  none : (scale : Scale) → l.bars.items ≡ columns_of l.counter scale [];
  count : length l.bars.items ≡ l.counter;
}
