use Rattle.std.proofs.Common.{◌+◌, ◌-◌, ◌%◌, ◌++◌, ◌∙◌, ℕ, ap, codes}
use Rattle.prl_drawing.specs.declared.rows.TheConstants.{COLOURS, GAP}
use Rattle.prl_drawing.specs.declared.window_texts.TheConstants.{HIGH}
use Rattle.prl_drawing.specs.Boxes.{cut_text}
use Rattle.prl_drawing.specs.Rows.{row_of}
use Rattle.prl_drawing.specs.Texts.{attribute_text}
use Rattle.prl_drawing.specs.Windows.{window_text}
use Rattle.prl_drawing.proofs.Two.{two}
use Rattle.prl_drawing.proofs.window_texts.push_window.Goals as goal

pub returns : goal.returns
unfolding window_text
returns c =
    let shape = c.args.shape.now in
    two c.push_cut.result c.args.text.now.items c.push_attribute.new.text.items c.push_cut.new.text.items
    (attribute_text (codes "<rect class=\"w t") (shape.task % COLOURS)) _ (cut_text shape.cut shape.left (row_of shape.row + GAP) (shape.right - shape.left) HIGH)
    (c.in_ok-push_attribute.ensures ∙ ap (λ (n : ℕ). c.args.text.now.items ++ attribute_text (codes "<rect class=\"w t") n) c.colour_of.ensures)
    (ap (λ (y : ℕ). cut_text shape.cut shape.left y c.width_of.result HIGH) c.window_top-top.ensures
    ∙ ap (λ (w : ℕ). cut_text shape.cut shape.left (row_of shape.row + GAP) w HIGH) c.width_of.ensures)
    c.push_cut.ensures
