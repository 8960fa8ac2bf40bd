use Rattle.std.proofs.Common.{◌+◌, ◌∙◌, ℕ, ap}
use Rattle.prl_drawing.specs.declared.rows.TheConstants.{GAP}
use Rattle.prl_drawing.specs.Boxes.{box_text}
use Rattle.prl_drawing.specs.Rows.{row_of}
use Rattle.prl_views.specs.declared.verdicts.TheConstants.{HIGH}
use Rattle.prl_views.specs.Pieces.{high_text, low_text}
use Rattle.prl_drawing.proofs.Two.{two}
use Rattle.prl_views.proofs.verdicts.push_both.Goals as goal

pub returns : goal.returns
returns c =
    let view = c.args.view.now in
    let piece = c.args.piece.now in
    two c.push_box.result c.args.text.now.items c.push_low.new.text.items c.push_box.new.text.items (low_text view piece) _ (high_text view piece)
    c.in_ok-push_low.ensures
    (ap (λ (top : ℕ). box_text view.scale piece.task.0 piece.from piece.to (top + GAP) HIGH) (c.row_of-top.ensures.exact ∙ ap row_of c.count.ensures.exact))
    c.push_box.ensures
