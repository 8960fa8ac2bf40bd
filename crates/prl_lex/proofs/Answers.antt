-- What an answer tells: a text was taken, or begun.
use Rattle.std.proofs.Common.{◌≡◌, ◌==◌, ◌≤◌, ◌<◌, ◌&&◌, ◌||◌, not, ℕ, zero, suc, Bool, true, false, List, [], ◌∷◌, ◌++◌, length, Ok, Err, refl, sym, ap, ◌∙◌, subst, inl, inr, arith, append_assoc, length-append}
use Rattle.std.proofs.lemmas.Bool.{cond_both, false≢true, and_parts, not-true, eqb-true, true≢false}
use Rattle.prl_base.specs.Reading.{◌>>=◌}
use Rattle.prl_lex.specs.Vocabulary.{Lexeme, first_place, One, Grammar, token, give, action, both, either, many, placed, inner, written, IsApart, is_guarded, Stuck, Deep, Read, next_in, one_at}
use Rattle.prl_lex.specs.Vocabulary.{many_up_to, Begins, shape}
use Rattle.prl_lex.specs.Grammars.{Many}
use Rattle.prl_lex.specs.code.Reads.{Shape}
use Rattle.prl_lex.specs.code.Shapes.{read}
use Rattle.prl_lex.proofs.Beginnings.{same_place, Some, begins, example}

-- What was taken is the text of a tree.
pub record Taken {A : Type 0} (W : A → List Lexeme → Type 0) (ts : List Lexeme) (a : A) (rest : List Lexeme) : Type 0 where
  pub text : List Lexeme
  pub whole : ts ≡ text ++ rest
  pub written : W a text

-- What was taken before a reader was stuck begins a text.
pub record CanComplete {A : Type 0} (W : A → List Lexeme → Type 0) (ts : List Lexeme) (left : ℕ) : Type 0 where
  pub taken : List Lexeme
  pub rest : List Lexeme
  pub more : List Lexeme
  pub tree : A
  pub whole : ts ≡ taken ++ rest
  pub count : left ≡ length rest
  pub completed : W tree (taken ++ more)

-- what is so of an answer, and D where it is too deep
abbrev pub Told : {A : Type 0} → Type 0 → (A → List Lexeme → Type 0) → List Lexeme → Read A → Type 0
Told D W ts (Ok x) = Taken W ts x.0 x.1
Told D W ts (Err (Stuck left)) = CanComplete W ts left
Told D W ts (Err Deep) = D

-- the same, said of other texts
pub told_as : {A : Type 0} {D E : Type 0} {W V : A → List Lexeme → Type 0} (ts : List Lexeme) (r : Read A) → (D → E) → ((a : A) (w : List Lexeme) → W a w → V a w) → Told D W ts r → Told E V ts r
told_as ts (Ok x) deep to t = record { text = t.text; whole = t.whole; written = to x.0 t.text t.written }
told_as ts (Err (Stuck left)) deep to c = record { taken = c.taken; rest = c.rest; more = c.more; tree = c.tree; whole = c.whole; count = c.count; completed = to c.tree (c.taken ++ c.more) c.completed }
told_as ts (Err Deep) deep to d = deep d

-- of what is made of a tree
told_made : {A B : Type 0} (D : Type 0) {W : A → List Lexeme → Type 0} {V : B → List Lexeme → Type 0} (f : A → B) (ts : List Lexeme) (r : Read A)
    → ((a : A) (u v : List Lexeme) → ts ≡ u ++ v → W a u → V (f a) u) → ((a : A) (w : List Lexeme) → W a w → (b : B) × V b w) → Told D W ts r → Told D V ts (r >>= λ x. Ok (f x.0, x.1))
told_made D f ts (Ok x) to any t = record { text = t.text; whole = t.whole; written = to x.0 t.text x.1 t.whole t.written }
told_made D f ts (Err (Stuck left)) to any c = let b = any c.tree (c.taken ++ c.more) c.completed in record { taken = c.taken; rest = c.rest; more = c.more; tree = b.0; whole = c.whole; count = c.count; completed = b.1 }
told_made D f ts (Err Deep) to any d = d

-- of one text after another
told_with : {A B C : Type 0} (D : Type 0) {W : A → List Lexeme → Type 0} {V : B → List Lexeme → Type 0} (Z : C → List Lexeme → Type 0) (f : A → B → C) (ts : List Lexeme) (r : Read A) (q : List Lexeme → Read B)
    → ((a : A) (b : B) (u v w : List Lexeme) → w ≡ u ++ v → W a u → V b v → Z (f a b) w) → Some V → Told D W ts r → ((x : A × List Lexeme) → Taken W ts x.0 x.1 → Told D V x.1 (q x.1))
    → Told D Z ts (r >>= λ x. (q x.1 >>= λ y. Ok (f x.0 y.0, y.1)))
told_with {A} {B} {C} D {W} {V} Z f ts (Ok x) q make some t two = after (q x.1) (two x t)
  where
    after : (s : Read B) → Told D V x.1 s → Told D Z ts (s >>= λ y. Ok (f x.0 y.0, y.1))
    after (Ok y) v = record {
      text = t.text ++ v.text;
      whole = t.whole ∙ ap (λ r. t.text ++ r) v.whole ∙ sym (append_assoc t.text v.text y.1);
      written = make x.0 y.0 t.text v.text (t.text ++ v.text) refl t.written v.written;
    }
    after (Err (Stuck left)) c = record {
      taken = t.text ++ c.taken;
      rest = c.rest;
      more = c.more;
      tree = f x.0 c.tree;
      whole = t.whole ∙ ap (λ r. t.text ++ r) c.whole ∙ sym (append_assoc t.text c.taken c.rest);
      count = c.count;
      completed = make x.0 c.tree t.text (c.taken ++ c.more) _ (append_assoc t.text c.taken c.more) t.written c.completed;
    }
    after (Err Deep) d = d
told_with D Z f ts (Err (Stuck left)) q make some c two = record {
  taken = c.taken;
  rest = c.rest;
  more = c.more ++ some.1;
  tree = f c.tree some.0;
  whole = c.whole;
  count = c.count;
  completed = make c.tree some.0 (c.taken ++ c.more) some.1 _ (sym (append_assoc c.taken c.more some.1)) c.completed some.2;
}
told_with D Z f ts (Err Deep) q make some d two = d

-- a text that is not empty leaves fewer tokens
pub fewer : {A : Type 0} {W : A → List Lexeme → Type 0} (s : Shape) → s.nullable ≡ false → ((a : A) (w : List Lexeme) → W a w → Begins s w) → (ts : List Lexeme) (a : A) (rest : List Lexeme) → Taken W ts a rest → length rest < length ts
fewer s solid begun ts a rest t = omega (arith, ap length t.whole, length-append t.text rest, some t.text (begun a t.text t.written))
  where
    some : (w : List Lexeme) → Begins s w → 0 < length w
    some [] b = absurd (false≢true (sym solid ∙ b))
    some (t ∷ w) b = omega arith

none : {A : Type 0} (W : A → List Lexeme → Type 0) (ts : List Lexeme) → Taken (Many W) ts [] ts
none W ts = record { text = []; whole = refl; written = refl }

-- of many in a row, where each is so of at most so many tokens
module _ {A : Type 0} {D : Type 0} {W : A → List Lexeme → Type 0} (ks : List ℕ) (p : List Lexeme → Read A) (most : ℕ) (less : (ts : List Lexeme) (a : A) (rest : List Lexeme) → Taken W ts a rest → length rest < length ts) (one : (ts : List Lexeme) → length ts ≤ most → Told D W ts (p ts)) where
  pub told_many : (n : ℕ) (ts : List Lexeme) → length ts ≤ most → (n < length ts → D) → Told D (Many W) ts (many_up_to ks p n ts)
  unfolding many_up_to
  told_many zero [] le deep = none W []
  told_many zero (t ∷ ts) le deep = cond_both (next_in ks (t ∷ ts)) _ _ (Told D (Many W) (t ∷ ts)) (λ e. deep (omega arith)) (λ e. none W (t ∷ ts))
  told_many (suc n) ts le deep = cond_both (next_in ks ts) _ _ (Told D (Many W) ts)
      (λ e. told_with _ _ (λ a xs. a ∷ xs) ts (p ts) (many_up_to ks p n) (λ a xs u v w e h k. (u, v, e, h, k)) ([], [], refl) (one ts le) (λ x t.
      let lt = less ts x.0 x.1 t in
      told_many n x.1 (omega arith) (λ long. deep (omega arith))))
      (λ e. none W ts)

-- a token of the class may come
may_come : (class : ℕ) (ts : List Lexeme) → CanComplete (One class) ts (length ts)
may_come class ts = let e = example {R = ℕ} (λ t w. ⊥) (token class) (λ e. absurd (true≢false e)) in record { taken = []; rest = ts; more = e.1; tree = e.0; whole = refl; count = refl; completed = e.2 }

told_one : (D : Type 0) (class : ℕ) (ts : List Lexeme) → Told D (One class) ts (one_at class ts)
told_one D class [] = may_come class []
told_one D class (t ∷ ts) = cond_both (t.class == class) _ _ (Told D (One class) (t ∷ ts))
    (λ e. record { text = t ∷ []; whole = refl; written = record { is = eqb-true t.class class e; whole = refl } })
    (λ e. may_come class (t ∷ ts))

-- no more tokens, or fewer
abbrev pub Near : Bool → List Lexeme → List Lexeme → Type 0
Near true us ts = length us < length ts
Near false us ts = length us ≤ length ts

near_after : (strict : Bool) (s : Shape) (us u rest ts : List Lexeme) → Begins s u → ts ≡ u ++ rest → Near (strict && s.nullable) us rest → Near strict us ts
near_after false s us u rest ts b e near = omega (arith, ap length e, length-append u rest)
near_after true s us [] rest ts b e near = let P : Bool → Type 0 = λ n. Near n us rest in let lt : length us < length rest = subst P b near in omega (arith, ap length e)
near_after true s us (t ∷ u) rest ts b e near = omega (arith, ap length e, length-append u rest, weak s.nullable near)
  where
    weak : (n : Bool) → Near n us rest → length us ≤ length rest
    weak true lt = omega arith
    weak false le = le

near_front : (strict : Bool) (us vs ts : List Lexeme) → length vs ≤ length ts → Near strict us vs → Near strict us ts
near_front true us vs ts le near = omega arith
near_front false us vs ts le near = omega arith

-- What is told of a reader, where as much is told of what reads in parentheses.
module _ {R : Type 0} (i : Shape) (I : R → List Lexeme → Type 0) (p : List Lexeme → Read R) (D : List Lexeme → Type 0) (begun : (t : R) (w : List Lexeme) → I t w → Begins i w) (some : Some I) (inside : (ts : List Lexeme) → Told (D ts) I ts (p ts)) where
  abbrev Deeper : Bool → List Lexeme → Type 0
  Deeper strict ts = (us : List Lexeme) × Near strict us ts × D us

  -- where all is guarded, what is too deep in parentheses begins after a token
  pub told : {A : Type 0} (strict : Bool) (g : Grammar R A) → IsApart i g → (strict ≡ true → is_guarded i g ≡ true) → (ts : List Lexeme) → Told (Deeper strict ts) (written I g) ts (read i p g ts)
  told strict (token class) h guarded ts = told_one _ class ts
  told strict (give x) h guarded ts = record { text = []; whole = refl; written = record { is = refl; whole = refl } }
  told strict (action g f) h guarded ts = told_made _ f ts (read i p g ts) (λ a u v e k. (a, refl, k)) (λ a w k. (f a, (a, refl, k))) (told strict g h guarded ts)
  told strict (both g k) h guarded ts =
      let parts = and_parts _ _ (and_parts _ _ h).0 in
      told_with _ _ (λ a b. (a, b)) ts (read i p g ts) (read i p k) (λ a b u v w e m n. (u, v, e, m, n)) (example I k (λ e. some)) (told strict g parts.0 (λ e. (and_parts _ _ (guarded e)).0) ts) (λ x t.
      told_as x.1 (read i p k x.1)
      (λ d. (d.0, near_after strict (shape i g) d.0 t.text x.1 ts (begins i I begun g x.0 t.text t.written) t.whole d.1, d.2))
      (λ a w m. m)
      (told (strict && (shape i g).nullable) k parts.1 (λ e. later (shape i g).nullable (is_guarded i k) (and_parts _ _ e).1 (and_parts _ _ (guarded (and_parts _ _ e).0)).1) x.1))
    where
      later : (n b : Bool) → n ≡ true → (not n || b) ≡ true → b ≡ true
      later true b e h = h
      later false b e h = absurd (false≢true e)
  told strict (either g k) h guarded ts =
      let parts = and_parts _ _ (and_parts _ _ h).0 in
      cond_both (next_in (shape i g).first ts) _ _ (Told (Deeper strict ts) (written I (either g k)) ts)
      (λ e. told_as ts (read i p g ts) (λ d. d) (λ a w m. inl m) (told strict g parts.0 (λ e. (and_parts _ _ (guarded e)).0) ts))
      (λ e. told_as ts (read i p k ts) (λ d. d) (λ a w m. inr m) (told strict k parts.1 (λ e. (and_parts _ _ (guarded e)).1) ts))
  told strict (many g) h guarded ts =
      let parts = and_parts _ _ (and_parts _ _ h).0 in
      told_many (shape i g).first (read i p g) (length ts) (fewer (shape i g) (not-true _ parts.1) (begins i I begun g)) (λ us le.
      told_as us (read i p g us) (λ d. (d.0, near_front strict d.0 us ts le d.1, d.2)) (λ a w m. m) (told strict g parts.0 guarded us))
      (length ts) ts (omega arith) (λ long. absurd (omega arith))
  told strict (placed g) h guarded ts =
      let parts = and_parts _ _ h in
      told_made _ (λ a. (first_place ts, a)) ts (read i p g ts)
      (λ a u v e m. (ap first_place e ∙ same_place (shape i g) u v (not-true _ parts.1) (begins i I begun g a u m), m))
      (λ a w m. ((first_place w, a), (refl, m)))
      (told strict g parts.0 guarded ts)
  told true inner h guarded ts = absurd (false≢true (guarded refl))
  told false inner h guarded ts = told_as ts (p ts) (λ d. (ts, omega arith, d)) (λ a w m. m) (inside ts)
