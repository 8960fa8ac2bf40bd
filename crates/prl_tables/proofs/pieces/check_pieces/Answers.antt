use Rattle.std.proofs.Common.{arith}
use Rattle.prl_tables.specs.Tables.{IsPiece}
use Rattle.prl_overlaps.proofs.Listed.{so_far, all_so_far}
use Rattle.prl_tables.proofs.pieces.check_pieces.Goals as goal

pub loop-k-preserved : goal.loop-k-preserved
loop-k-preserved c = so_far (λ _ entry. IsPiece c.args.plan.now entry) c.args.entries.now c.loop-k.k _ c.loop-k.invariant c.if-not-is_piece.ensures.yes

pub returns-clause-pieces : goal.returns-clause-pieces
returns-clause-pieces c =
    all_so_far (λ _ entry. IsPiece c.args.plan.now entry) c.args.entries.now c.loop-k.k c.loop-k.invariant
    (let t = c.loop-k-test.false in let e = c.loop-k.auto.k-end in omega (arith, t, e))
