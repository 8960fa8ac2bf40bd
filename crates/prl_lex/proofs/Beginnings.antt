-- What texts of a grammar begin with, and that there are some.
use Rattle.std.proofs.Common.{◌≡◌, false, List, [], ◌∷◌, ◌++◌, refl, sym, ap, ◌∙◌, subst, inl, inr, ⊎_elim}
use Rattle.std.proofs.lemmas.Bool.{false≢true, cond-true, cond-false, cases_Bool, and_from, and_left, and_right, or_left, or_right, eq-eqb}
use Rattle.prl_lex.specs.Vocabulary.{Lexeme, first_place, Grammar, token, give, action, both, either, many, placed, inner, written, is_founded, is_in, Begins, then_shape, either_shape, many_shape}
use Rattle.prl_lex.specs.Vocabulary.{shape}
use Rattle.prl_lex.specs.code.Reads.{Shape}
use Rattle.prl_lex.proofs.Basics.{in_left, in_right}

then_begins : (s r : Shape) (u v : List Lexeme) → Begins s u → Begins r v → Begins (then_shape s r) (u ++ v)
then_begins s r [] [] a b = and_from _ _ a b
then_begins s r [] (t ∷ v) a b = ap (is_in t.class) (cond-true s.nullable (s.first ++ r.first) s.first a) ∙ in_right s.first r.first t.class b
then_begins s r (t ∷ u) v a b = ⊎_elim
    (λ e. ap (is_in t.class) (cond-true s.nullable (s.first ++ r.first) s.first e) ∙ in_left s.first r.first t.class a)
    (λ e. ap (is_in t.class) (cond-false s.nullable (s.first ++ r.first) s.first e) ∙ a)
    (cases_Bool s.nullable)

left_begins : (s r : Shape) (w : List Lexeme) → Begins s w → Begins (either_shape s r) w
left_begins s r [] b = or_left _ _ b
left_begins s r (t ∷ w) b = in_left s.first r.first t.class b

right_begins : (s r : Shape) (w : List Lexeme) → Begins r w → Begins (either_shape s r) w
right_begins s r [] b = or_right _ _ b
right_begins s r (t ∷ w) b = in_right s.first r.first t.class b

more_begins : (s : Shape) (u v : List Lexeme) → Begins s u → Begins (many_shape s) v → Begins (many_shape s) (u ++ v)
more_begins s [] v a b = b
more_begins s (t ∷ u) v a b = a

same_begins : (s : Shape) (v w : List Lexeme) → w ≡ v → Begins s v → Begins s w
same_begins s v w e b = let P : List Lexeme → Type 0 = Begins s in subst P (sym e) b

-- a text that is not empty has its own first place
pub same_place : (s : Shape) (w rest : List Lexeme) → s.nullable ≡ false → Begins s w → first_place (w ++ rest) ≡ first_place w
same_place s [] rest solid b = absurd (false≢true (sym solid ∙ b))
same_place s (t ∷ w) rest solid b = refl

module _ {R : Type 0} (i : Shape) (I : R → List Lexeme → Type 0) (begun : (t : R) (w : List Lexeme) → I t w → Begins i w) where
  pub begins : {A : Type 0} (g : Grammar R A) (a : A) (w : List Lexeme) → written I g a w → Begins (shape i g) w
  begins (token class) t w h = same_begins (shape {R = R} i (token class)) (t ∷ []) w h.whole (or_left _ _ (eq-eqb class t.class (sym h.is)))
  begins (give x) a w h = same_begins (shape {R = R} i (give x)) [] w h.whole refl
  begins (action g f) b w h = begins g h.0 w h.2
  begins (both g k) x w h = same_begins (shape i (both g k)) (h.0 ++ h.1) w h.2 (then_begins (shape i g) (shape i k) h.0 h.1 (begins g x.0 h.0 h.3) (begins k x.1 h.1 h.4))
  begins (either g k) a w (inl h) = left_begins (shape i g) (shape i k) w (begins g a w h)
  begins (either g k) a w (inr h) = right_begins (shape i g) (shape i k) w (begins k a w h)
  begins (many g) [] w h = same_begins (shape i (many g)) [] w h refl
  begins (many g) (a ∷ xs) w h = same_begins (shape i (many g)) (h.0 ++ h.1) w h.2 (more_begins (shape i g) h.0 h.1 (begins g a h.0 h.3) (begins (many g) xs h.1 h.4))
  begins (placed g) x w h = begins g x.1 w h.1
  begins inner t w h = begun t w h

-- there is a text
abbrev pub Some : {A : Type 0} → (A → List Lexeme → Type 0) → Type 0
Some {A} W = (a : A) × (w : List Lexeme) × W a w

pub example : {R A : Type 0} (I : R → List Lexeme → Type 0) (g : Grammar R A) → (is_founded g ≡ false → Some I) → Some (written I g)
example I (token class) h = (record { class = class; name = []; number = 0; at = first_place [] }, record { class = class; name = []; number = 0; at = first_place [] } ∷ [], record { is = refl; whole = refl })
example I (give x) h = (x, [], record { is = refl; whole = refl })
example I (action g f) h = let e = example I g h in (f e.0, e.1, (e.0, refl, e.2))
example I (both g k) h =
    let d = example I g (λ e. h (and_left _ _ e)) in
    let e = example I k (λ e. h (and_right _ _ e)) in
    ((d.0, e.0), d.1 ++ e.1, (d.1, e.1, refl, d.2, e.2))
example I (either g k) h = let e = example I g h in (e.0, e.1, inl e.2)
example I (many g) h = ([], [], refl)
example I (placed g) h = let e = example I g h in ((first_place e.1, e.0), e.1, (refl, e.2))
example I inner h = h refl
