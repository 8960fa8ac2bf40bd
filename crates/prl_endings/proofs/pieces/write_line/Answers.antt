use Rattle.prl_io.proofs.WriteLemmas.{pieces_stop, is_written_stopped}
use Rattle.prl_endings.specs.code.Pieces.{piece_text}
use Rattle.prl_endings.proofs.pieces.write_line.Goals as goal

pub returns-in_err-write_piece-clause-grown : goal.returns-in_err-write_piece-clause-grown
returns-in_err-write_piece-clause-grown g c =
    is_written_stopped _ c.from_residual.ensures.0
    (pieces_stop piece_text _ c.loop-piece.piece-index _ c.loop-piece-test.true c.loop-piece.invariant.0 c.in_err-write_piece.ensures.grown)
