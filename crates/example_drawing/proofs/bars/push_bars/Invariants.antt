use Rattle.prl_base.proofs.Standard.{◌≡◌, ◌++◌, ◌-◌, length, flat_map, range_with_len}
use Rattle.example_drawing.specs.Bars.{bar_text, bars_text}
use Rattle.example_drawing.proofs.bars.push_bars.Given as goal

-- with the bars that are still to come it is all
abbrev pub invariant-loop-i : goal.invariant-loop-i
invariant-loop-i l = l.text.items ++ flat_map (bar_text l.graph) (range_with_len l.i (length l.graph.tasks - l.i)) ≡ l.initial.text.items ++ bars_text l.graph
