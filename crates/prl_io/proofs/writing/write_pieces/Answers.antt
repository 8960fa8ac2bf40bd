use Rattle.prl_io.proofs.WriteLemmas.{pieces_stop, is_written_stopped}
use Rattle.prl_io.proofs.writing.write_pieces.Goals as goal

pub returns-in_err-write_all-clause-grown : goal.returns-in_err-write_all-clause-grown
returns-in_err-write_all-clause-grown g c =
    is_written_stopped _ c.from_residual.ensures.0
    (pieces_stop (λ piece. piece.now) c.args.pieces.now c.loop-piece.piece-index _ c.loop-piece-test.true c.loop-piece.invariant.0 c.in_err-write_all.ensures.grown)
