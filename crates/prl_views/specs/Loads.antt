-- For how many ticks a run keeps the processor busy.
use Rattle.std.specs.Prelude.{◌+◌, ◌-◌, ℕ, List, [], ◌∷◌, min}
use Rattle.prl_edf.specs.declared.pieces.Piece.{Piece}

-- how many of the ticks before an end the pieces have
abbrev pub busy_before : ℕ → List Piece → ℕ
busy_before end [] = 0
busy_before end (piece ∷ pieces) = (min piece.to end - piece.from) + busy_before end pieces
