-- Runs that go on by some ticks.
use Rattle.std.specs.Prelude.{◌≡◌, ◌<◌, ◌≤◌, ℕ, List, [], ◌∷◌, Option, Some, None}
use Rattle.prl_edf.specs.declared.pieces.Piece.{Piece}

-- the ticks of [from, to) go to one thing, those before as in another run, and those after to none
pub record Extends (run next : ℕ → Option (ℕ × ℕ)) (from to : ℕ) (job : Option (ℕ × ℕ)) : Type 0 where
  pub before : (t : ℕ) → t < from → next t ≡ run t
  pub here : (t : ℕ) → from ≤ t → t < to → next t ≡ job
  pub after : (t : ℕ) → to ≤ t → next t ≡ None

abbrev pub IsExtended : (ℕ → Option (ℕ × ℕ)) → (ℕ → Option (ℕ × ℕ)) → Piece → Type 0
IsExtended run next piece = Extends run next piece.from piece.to (Some (piece.task.0, piece.job))

-- each piece ends by t
abbrev pub EndBy : List Piece → ℕ → Type 0
EndBy [] t = Unit {0}
EndBy (piece ∷ pieces) t = (piece.to ≤ t) × EndBy pieces t
