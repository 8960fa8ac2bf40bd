-- Facts on lists of tokens, on their classes, and on shapes.
use Rattle.std.proofs.Common.{◌≡◌, ◌==◌, ℕ, Bool, true, false, ◌||◌, ◌&&◌, List, [], ◌∷◌, ◌++◌, length, refl, sym, ap, ◌∙◌, ⊎_elim, arith, length-append}
use Rattle.std.proofs.lemmas.Bool.{cases_Bool, false≢true, and_parts, or_cases, or_parts, or_left, or_right, eqb-true, not-true}
use Rattle.prl_lex.specs.Vocabulary.{Lexeme, next_class, is_in, next_in, StopsBefore, disjoint}

-- after the same tokens the next one is of the same class
pub next_class_append : (w rest other : List Lexeme) → next_class rest ≡ next_class other → next_class (w ++ rest) ≡ next_class (w ++ other)
next_class_append [] rest other e = e
next_class_append (t ∷ w) rest other e = refl

pub next_in_class : (ks : List ℕ) (x y : List Lexeme) → next_class x ≡ next_class y → next_in ks x ≡ next_in ks y
next_in_class ks [] [] e = refl
next_in_class ks [] (t ∷ y) e = cc
next_in_class ks (t ∷ x) [] e = cc
next_in_class ks (t ∷ x) (u ∷ y) e = let same : t.class ≡ u.class = cc in ap (λ c. is_in c ks) same

pub is_in_append : (c : ℕ) (ks ls : List ℕ) → is_in c (ks ++ ls) ≡ (is_in c ks || is_in c ls)
is_in_append c [] ls = refl
is_in_append c (k ∷ ks) ls = ap (λ b. (k == c) || b) (is_in_append c ks ls) ∙ regroup (k == c) (is_in c ks) (is_in c ls)
  where
    regroup : (x y z : Bool) → (x || (y || z)) ≡ ((x || y) || z)
    regroup true y z = refl
    regroup false y z = refl

pub in_left : (ks ls : List ℕ) (c : ℕ) → is_in c ks ≡ true → is_in c (ks ++ ls) ≡ true
in_left ks ls c h = is_in_append c ks ls ∙ or_left _ _ h

pub in_right : (ks ls : List ℕ) (c : ℕ) → is_in c ls ≡ true → is_in c (ks ++ ls) ≡ true
in_right ks ls c h = is_in_append c ks ls ∙ or_right _ _ h

-- what stops before classes stops before each part of them
pub stops_parts : (ks ls : List ℕ) (rest : List Lexeme) → StopsBefore (ks ++ ls) rest → StopsBefore ks rest × StopsBefore ls rest
stops_parts ks ls [] h = (tt, tt)
stops_parts ks ls (t ∷ rest) h = or_parts _ _ (sym (is_in_append t.class ks ls) ∙ h)

-- what is in a list that shares no class with the other is not in the other
pub apart : (ks ls : List ℕ) (c : ℕ) → disjoint ks ls ≡ true → is_in c ls ≡ true → is_in c ks ≡ false
apart [] ls c d h = refl
apart (k ∷ ks) ls c d h = neither (k == c) (is_in c ks) (λ e. (let same : is_in k ls ≡ is_in c ls = ap (λ i. is_in i ls) (eqb-true k c e) in false≢true (sym (not-true (is_in k ls) (and_parts _ _ d).0) ∙ same ∙ h))) (apart ks ls c (and_parts _ _ d).1 h)
  where
    neither : (x y : Bool) → (x ≡ true → ⊥) → y ≡ false → (x || y) ≡ false
    neither true y never e = absurd (never refl)
    neither false y never e = e

-- each class of the one is in the other
abbrev pub contained : List ℕ → List ℕ → Bool
contained [] ls = true
contained (k ∷ ks) ls = is_in k ls && contained ks ls

pub inside : (ks ls : List ℕ) (c : ℕ) → contained ks ls ≡ true → is_in c ks ≡ true → is_in c ls ≡ true
inside [] ls c d h = cc
inside (k ∷ ks) ls c d h = ⊎_elim (λ e. ap (λ i. is_in i ls) (sym (eqb-true k c e)) ∙ (and_parts _ _ d).0) (λ later. inside ks ls c (and_parts _ _ d).1 later) (or_cases (k == c) (is_in c ks) h)

pub stops_inside : (ks ls : List ℕ) (rest : List Lexeme) → contained ks ls ≡ true → StopsBefore ls rest → StopsBefore ks rest
stops_inside ks ls [] d h = tt
stops_inside ks ls (t ∷ rest) d h = ⊎_elim (λ e. absurd (false≢true (sym h ∙ inside ks ls t.class d e))) (λ e. e) (cases_Bool (is_in t.class ks))

-- one list is cut at one place where what is left is as long
pub same_cut : (w u rest other : List Lexeme) → w ++ rest ≡ u ++ other → length rest ≡ length other → (w ≡ u) × (rest ≡ other)
same_cut [] [] rest other e l = (refl, e)
same_cut [] (t ∷ u) rest other e l = absurd (omega (arith, ap length e, length-append (t ∷ u) other))
same_cut (t ∷ w) [] rest other e l = absurd (omega (arith, ap length e, length-append (t ∷ w) rest))
same_cut (t ∷ w) (v ∷ u) rest other e l =
    let head : t ≡ v = cc in
    let tail : w ++ rest ≡ u ++ other = cc in
    let cut = same_cut w u rest other tail l in
    (ap (λ x. x ∷ w) head ∙ ap (λ x. v ∷ x) cut.0, cut.1)
