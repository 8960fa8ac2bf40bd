use Rattle.std.proofs.Common.{length, rules}
use Rattle.prl_shapes.proofs.Counts.{flattened}
use Rattle.example_drawing.specs.Bars.{bar_text}
use Rattle.example_drawing.proofs.bars.push_bars.Goals as goal

pub loop-i-preserved : goal.loop-i-preserved
loop-i-preserved c =
    flattened (bar_text c.args.graph.now) c.loop-i.text.items c.push_bar.new.text.items _ c.loop-i.i (length c.args.graph.now.tasks)
    (search rules) c.in_ok-push_bar.ensures c.loop-i.invariant
