use Rattle.std.specs.Prelude.{◌≡◌, ◌<◌, ℕ, Some, slice_get}
use Rattle.prl_tables.specs.Vocabulary.{Entry, IsPiece}
use Rattle.prl_tables.proofs.pieces.check_pieces.Given as goal

-- the entries so far are pieces
abbrev pub invariant-loop-k : goal.invariant-loop-k
invariant-loop-k l = (j : ℕ) (other : Entry) → j < l.k → slice_get l.entries j ≡ Some other → IsPiece l.plan other
