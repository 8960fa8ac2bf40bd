-- Grammars that grow with the depth of parentheses.
use Rattle.std.proofs.Common.{◌≤◌, ◌+◌, ℕ, zero, suc, List, [], ◌∷◌, inl, inr, arith}
use Rattle.prl_lex.specs.Vocabulary.{Lexeme, Grammar, token, give, action, both, either, many, placed, inner, written, Language, within, nested}

module _ {R : Type 0} (E F : R → List Lexeme → Type 0) (grows : (t : R) (w : List Lexeme) → E t w → F t w) where
  pub written_grows : {A : Type 0} (g : Grammar R A) (a : A) (w : List Lexeme) → written E g a w → written F g a w
  written_grows (token class) t w h = h
  written_grows (give x) a w h = h
  written_grows (action g f) b w h = (h.0, h.1, written_grows g h.0 w h.2)
  written_grows (both g k) x w h = (h.0, h.1, h.2, written_grows g x.0 h.0 h.3, written_grows k x.1 h.1 h.4)
  written_grows (either g k) a w (inl h) = inl (written_grows g a w h)
  written_grows (either g k) a w (inr h) = inr (written_grows k a w h)
  written_grows (many g) [] w h = h
  written_grows (many g) (a ∷ xs) w h = (h.0, h.1, h.2, written_grows g a h.0 h.3, written_grows (many g) xs h.1 h.4)
  written_grows (placed g) x w h = (h.0, written_grows g x.1 w h.1)
  written_grows inner t w h = grows t w h

module _ {R : Type 0} (l : Language R) where
  deeper : (n m : ℕ) → n ≤ m → (t : R) (w : List Lexeme) → within l n t w → within l m t w
  unfolding within
  deeper zero m le t w h = absurd h
  deeper (suc n) zero le t w h = absurd (omega arith)
  deeper (suc n) (suc m) le t w h = written_grows (within l n) (within l m) (deeper n m (omega arith)) l.body t w h

  raised : {A : Type 0} (n m : ℕ) → n ≤ m → (g : Grammar R A) (a : A) (w : List Lexeme) → written (within l n) g a w → written (within l m) g a w
  raised n m le = written_grows (within l n) (within l m) (deeper n m le)

  some_depth : {A : Type 0} (g : Grammar R A) (a : A) (w : List Lexeme) → written (nested l) g a w → (n : ℕ) × written (within l n) g a w
  unfolding nested
  some_depth (token class) t w h = (0, h)
  some_depth (give x) a w h = (0, h)
  some_depth (action g f) b w h = let d = some_depth g h.0 w h.2 in (d.0, (h.0, h.1, d.1))
  some_depth (both g k) x w h =
      let d = some_depth g x.0 h.0 h.3 in
      let e = some_depth k x.1 h.1 h.4 in
      (d.0 + e.0, (h.0, h.1, h.2, raised d.0 (d.0 + e.0) (omega arith) g x.0 h.0 d.1, raised e.0 (d.0 + e.0) (omega arith) k x.1 h.1 e.1))
  some_depth (either g k) a w (inl h) = let d = some_depth g a w h in (d.0, inl d.1)
  some_depth (either g k) a w (inr h) = let d = some_depth k a w h in (d.0, inr d.1)
  some_depth (many g) [] w h = (0, h)
  some_depth (many g) (a ∷ xs) w h =
      let d = some_depth g a h.0 h.3 in
      let e = some_depth (many g) xs h.1 h.4 in
      (d.0 + e.0, (h.0, h.1, h.2, raised d.0 (d.0 + e.0) (omega arith) g a h.0 d.1, raised e.0 (d.0 + e.0) (omega arith) (many g) xs h.1 e.1))
  some_depth (placed g) x w h = let d = some_depth g x.1 w h.1 in (d.0, (h.0, d.1))
  some_depth inner t w h = h

  pub to_nested : (t : R) (w : List Lexeme) → written (nested l) l.body t w → nested l t w
  unfolding nested within
  to_nested t w h = let d = some_depth l.body t w h in (suc d.0, d.1)

  pub from_nested : (t : R) (w : List Lexeme) → nested l t w → written (nested l) l.body t w
  unfolding nested within
  from_nested t w h = go h.0 h.1
    where
      go : (n : ℕ) → within l n t w → written (nested l) l.body t w
      go zero h = absurd h
      go (suc n) h = written_grows (within l n) (nested l) (λ t w h. (n, h)) l.body t w h
