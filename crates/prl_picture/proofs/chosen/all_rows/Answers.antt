use Rattle.std.proofs.Common.{◌++◌, ◌∷◌, ◌∙◌, ℕ, List, [], ap, sym, arith}
use Rattle.prl_picture.proofs.Rows.{row_more}
use Rattle.prl_picture.proofs.chosen.all_rows.Goals as goal

pub loop-j-preserved : goal.loop-j-preserved
loop-j-preserved c = record {
  told = c.in_ok-push_row.ensures.exact ∙ ap (λ (rows : List ℕ). rows ++ c.loop-j.j ∷ []) c.loop-j.invariant.told ∙ sym (row_more c.loop-j.j);
  inside = c.in_ok-push_row.ensures.inside c.loop-j.invariant.inside;
  few = omega (arith, c.in_ok-push_row.ensures.few, c.loop-j.invariant.few);
}
