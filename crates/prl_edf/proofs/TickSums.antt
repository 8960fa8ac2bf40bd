-- The ticks of pieces, added up from the first piece on.
use Rattle.std.proofs.Common.{◌≡◌, ◌+◌, ◌-◌, ◌<◌, ◌≤◌, ℕ, List, ◌∷◌, length, get_or, drop, inl, inr, ap, subst, arith}
use Rattle.prl_edf.specs.Vocabulary.{Piece, ticks_of, IsFollowed, AreLongest}
use Rattle.prl_edf.proofs.Skips.{longest_from, piece_at, none_left}

-- the sum of the first k pieces, which is no more than where the next one begins
pub record IsSumOf (ps : List Piece) (k sum : ℕ) : Type 0 where
  pub adds : sum + ticks_of (drop k ps) ≡ ticks_of ps
  pub within : (p : Piece) (rest : List Piece) → drop k ps ≡ p ∷ rest → sum ≤ p.from

pub none_added : (ps : List Piece) → IsSumOf ps 0 0
none_added ps = record { adds = omega arith; within = λ p rest at. omega arith }

module _ (ps : List Piece) (longest : AreLongest ps) (k sum : ℕ) (so_far : IsSumOf ps k sum) (d : Piece) (inside : k < length ps) where
  abbrev here : Piece
  here = get_or ps k d

  at : drop k ps ≡ here ∷ drop (k + 1) ps
  at = piece_at ps k d inside

  longest_here : AreLongest (here ∷ drop (k + 1) ps)
  longest_here = subst AreLongest at (longest_from ps k longest)

  pub in_order : here.from ≤ here.to
  in_order = (let some = longest_here.0 in omega (arith, some))

  pub not_more : sum + (here.to - here.from) ≤ here.to
  not_more = (let some = longest_here.0 in let h = so_far.within here (drop (k + 1) ps) at in omega (arith, some, h))

  pub one_added : IsSumOf ps (k + 1) (sum + (here.to - here.from))
  one_added = record {
    adds = (let e = so_far.adds in let s = ap ticks_of at in omega (arith, e, s));
    within = λ p rest is.
        (let most = not_more in
        elim (subst (IsFollowed here) is longest_here.1) [
          | inl later ↦ omega (arith, later, most)
          | inr meets ↦ (let e = meets.0 in omega (arith, e, most))
        ]);
  }

pub all_added : (ps : List Piece) (k sum : ℕ) → IsSumOf ps k sum → length ps ≤ k → sum ≡ ticks_of ps
all_added ps k sum so_far over = (let e = so_far.adds in let n = ap ticks_of (none_left ps k over) in omega (arith, e, n))
