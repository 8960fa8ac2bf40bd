-- A timed run as a list of pieces.
use Rattle.std.specs.Prelude.{◌≡◌, ◌+◌, ◌-◌, ◌<◌, ◌&&◌, ◌⊎◌, ℕ, Bool, List, [], ◌∷◌, Option, Some, None, nat_le, nat_lt, if◌then◌else◌}
use Rattle.prl_edf.specs.declared.pieces.Piece.{Piece}

-- the tick lies in the piece
abbrev pub lies_in : Piece → ℕ → Bool
lies_in piece t = nat_le piece.from t && nat_lt t piece.to

-- what each tick goes to
abbrev pub run_of : List Piece → ℕ → Option (ℕ × ℕ)
run_of [] t = None
run_of (piece ∷ pieces) t = if lies_in piece t then Some (piece.task.0, piece.job) else run_of pieces t

-- how many ticks the pieces have together
abbrev pub ticks_of : List Piece → ℕ
ticks_of [] = 0
ticks_of (piece ∷ pieces) = (piece.to - piece.from) + ticks_of pieces

-- the next piece begins later, or at once with another job
abbrev pub IsFollowed : Piece → List Piece → Type 0
IsFollowed piece [] = Unit {0}
IsFollowed piece (next ∷ pieces) =
    (piece.to < next.from) ⊎ ((piece.to ≡ next.from) × (piece.task.0 ≡ next.task.0 → piece.job ≡ next.job → ⊥))

-- in order of time, and each as long as possible
abbrev pub AreLongest : List Piece → Type 0
AreLongest [] = Unit {0}
AreLongest (piece ∷ pieces) = (piece.from < piece.to) × IsFollowed piece pieces × AreLongest pieces
