use Rattle.prl_base.proofs.Standard.{◌≡◌, take, flat_map}
use Rattle.prl_io.specs.Faults.{piece_text}
use Rattle.prl_io.proofs.faults.why_with.Given as goal

-- the pieces that were passed
abbrev pub invariant-loop-piece : goal.invariant-loop-piece
invariant-loop-piece l = l.why.items ≡ flat_map piece_text (take l.piece-index l.pieces)
