use Rattle.prl_base.proofs.Standard.{◌≡◌, take, flat_map}
use Rattle.prl_drawing.specs.Windows.{window_text}
use Rattle.prl_drawing.proofs.window_texts.windows.Given as goal

-- the windows of the jobs that were passed
abbrev pub invariant-loop-shape : goal.invariant-loop-shape
invariant-loop-shape l = l.text.items ≡ flat_map window_text (take l.shape-index l.shapes)
