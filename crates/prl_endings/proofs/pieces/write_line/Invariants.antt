use Rattle.prl_base.proofs.Standard.{◌≡◌, ◌≤◌, take, flat_map}
use Rattle.prl_io.specs.Growth.{appended}
use Rattle.prl_endings.specs.code.Pieces.{piece_text}
use Rattle.prl_endings.proofs.pieces.write_line.Given as goal

-- the pieces so far are written
abbrev pub invariant-loop-piece : goal.invariant-loop-piece
invariant-loop-piece g l =
    ((g.S.Sink.seen l.sink).written ≡ appended ((g.S.Sink.seen l.initial.sink).written) (flat_map piece_text (take l.piece-index l.piece-items)))
    × ((g.S.Sink.seen l.initial.sink).faults ≤ (g.S.Sink.seen l.sink).faults)
