use Rattle.std.proofs.Common.{◌≡◌, ap, arith}
use Rattle.std.proofs.lemmas.List.{drop_all}
use Rattle.prl_views.specs.Loads.{busy_before}
use Rattle.prl_views.proofs.verdicts.busy_before.Goals as goal

pub returns : goal.returns
returns c =
    let none = ap (busy_before c.args.end) (drop_all c.loop-piece.piece-index c.args.pieces.now c.loop-piece-test.false) in
    omega (arith, none, c.loop-piece.invariant.told, c.loop-piece.invariant.small)
