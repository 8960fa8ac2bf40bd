-- The pieces of a run and the ticks that go to jobs.
use Rattle.prl_base.proofs.Standard.{Bool, true, false, cond, ◌≡◌, ◌-◌, ◌<◌, ◌≤◌, inl, inr, List, [], ◌∷◌, ℕ, zero, suc, slice_get, refl, ◌∙◌, ap, subst, arith, Option, Some, None, nat_tests, same_Some}
use Rattle.prl_edf.specs.declared.pieces.Piece.{Piece}
use Rattle.prl_edf.specs.Vocabulary.{AreLongest, lies_in, run_of}

-- a piece of the list with tick t in it, of job n of task i
pub record IsTickOf (pieces : List Piece) (t i n : ℕ) : Type 0 where
  pub number : ℕ
  pub piece : Piece
  pub at : slice_get pieces number ≡ Some piece
  pub below : t < piece.to
  pub task : piece.task.0 ≡ i
  pub job : piece.job ≡ n

lies : (p : Piece) (t : ℕ) → p.from ≤ t → t < p.to → lies_in p t ≡ true
lies p t from to = grind (arith, nat_tests)

lies_not : (p : Piece) (t : ℕ) → p.to ≤ t → lies_in p t ≡ false
lies_not p t out = grind (arith, nat_tests)

lies_below : (p : Piece) (t : ℕ) → lies_in p t ≡ true → t < p.to
lies_below p t in_it = grind (arith, nat_tests)

same_first : (a b c d : ℕ) → ◌≡◌ {A = Option (ℕ × ℕ)} (Some (a, b)) (Some (c, d)) → a ≡ c
same_first a b c d e = ap (λ (x : ℕ × ℕ). x.0) (same_Some (a, b) (c, d) e)

same_second : (a b c d : ℕ) → ◌≡◌ {A = Option (ℕ × ℕ)} (Some (a, b)) (Some (c, d)) → b ≡ d
same_second a b c d e = ap (λ (x : ℕ × ℕ). x.1) (same_Some (a, b) (c, d) e)

-- what a tick goes to is the job of a piece that it lies in
pub tick_of : (pieces : List Piece) (t i n : ℕ) → run_of pieces t ≡ Some (i, n) → IsTickOf pieces t i n
tick_of [] t i n goes = absurd (let f : ◌≡◌ {A = Option (ℕ × ℕ)} None (Some (i, n)) = goes in cc)
tick_of (piece ∷ pieces) t i n goes = go (λ is. tick_of pieces t i n is) (lies_in piece t) refl goes
  where
    go : (run_of pieces t ≡ Some (i, n) → IsTickOf pieces t i n) → (b : Bool) → lies_in piece t ≡ b → cond b (Some (piece.task.0, piece.job)) (run_of pieces t) ≡ Some (i, n) → IsTickOf (piece ∷ pieces) t i n
    go deeper true in_it is = record {
      number = 0;
      piece = piece;
      at = refl;
      below = lies_below piece t in_it;
      task = same_first piece.task.0 piece.job i n is;
      job = same_second piece.task.0 piece.job i n is;
    }
    go deeper false out is =
        let rest = deeper is in
        record { number = suc rest.number; piece = rest.piece; at = rest.at; below = rest.below; task = rest.task; job = rest.job }

-- the pieces behind one begin when it has ended, or later
follows : (piece : Piece) (pieces : List Piece) → AreLongest (piece ∷ pieces) → (k : ℕ) (p : Piece) → slice_get pieces k ≡ Some p → (piece.to ≤ p.from) × (p.from < p.to)
follows piece [] longest k p at = absurd (let f : ◌≡◌ {A = Option Piece} None (Some p) = at in cc)
follows piece (next ∷ pieces) longest zero p at =
    let same : next ≡ p = same_Some next p at in
    let later : piece.to ≤ next.from = (let f = longest.1 in elim f [ inl less ↦ omega (arith, less) | inr one ↦ (let e = one.0 in omega (arith, e)) ]) in
    subst (λ (x : Piece). (piece.to ≤ x.from) × (x.from < x.to)) same (later, longest.2.0)
follows piece (next ∷ pieces) longest (suc k) p at =
    let later : piece.to ≤ next.from = (let f = longest.1 in elim f [ inl less ↦ omega (arith, less) | inr one ↦ (let e = one.0 in omega (arith, e)) ]) in
    let rest = follows next pieces longest.2 k p at in
    (omega (arith, later, rest.0, longest.2.0), rest.1)

-- the last tick of a piece goes to its job
pub last_goes : (pieces : List Piece) → AreLongest pieces → (k : ℕ) (p : Piece) → slice_get pieces k ≡ Some p → (p.from < p.to) × (run_of pieces (p.to - 1) ≡ Some (p.task.0, p.job))
last_goes [] longest k p at = absurd (let f : ◌≡◌ {A = Option Piece} None (Some p) = at in cc)
last_goes (piece ∷ pieces) longest zero p at =
    let same : piece ≡ p = same_Some piece p at in
    let in_it : lies_in piece (piece.to - 1) ≡ true = lies piece (piece.to - 1) (omega (arith, longest.0)) (omega (arith, longest.0)) in
    let goes : run_of (piece ∷ pieces) (piece.to - 1) ≡ Some (piece.task.0, piece.job) = ap (λ (b : Bool). cond b (Some (piece.task.0, piece.job)) (run_of pieces (piece.to - 1))) in_it in
    subst (λ (x : Piece). (x.from < x.to) × (run_of (piece ∷ pieces) (x.to - 1) ≡ Some (x.task.0, x.job))) same (longest.0, goes)
last_goes (piece ∷ pieces) longest (suc k) p at =
    let rest = last_goes pieces longest.2 k p at in
    let past = follows piece pieces longest k p at in
    let out : lies_in piece (p.to - 1) ≡ false = lies_not piece (p.to - 1) (omega (arith, past.0, past.1)) in
    (rest.0, ap (λ (b : Bool). cond b (Some (piece.task.0, piece.job)) (run_of pieces (p.to - 1))) out ∙ rest.1)
