use Rattle.std.proofs.Common.{◌≡◌, sym, ap, ◌∙◌, refl, None}
use Rattle.prl_body.specs.Vocabulary.{unknown_name, tree_of}
use Rattle.prl_body.proofs.TextSeries.{tree_of_Series}
use Rattle.prl_body.proofs.names.+unknown_name.Goals as goal

pub loop-pair-init : goal.loop-pair-init
loop-pair-init t c =
    let first : unknown_name c.args.scope.now.ins c.args.scope.now.registers (tree_of c.in-Series.first.value) ≡ None = rw c.deref-in-Series.ensures at (sym c.in_default.ensures) in
    let whole = ap (unknown_name c.args.scope.now.ins c.args.scope.now.registers) (tree_of_Series c.in-Series.first c.in-Series.rights) in
    rw (c.in-Series.is, c.deref-pair-items.ensures.value) (sym (whole ∙ rw first refl))
