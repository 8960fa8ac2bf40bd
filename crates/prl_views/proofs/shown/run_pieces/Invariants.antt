use Rattle.prl_base.proofs.Standard.{◌≡◌, take, flat_map}
use Rattle.prl_views.specs.Pieces.{piece_text}
use Rattle.prl_views.proofs.shown.run_pieces.Given as goal

-- the pieces that were passed
abbrev pub invariant-loop-piece : goal.invariant-loop-piece
invariant-loop-piece l = l.text.items ≡ flat_map (piece_text l.view) (take l.piece-index l.pieces)
