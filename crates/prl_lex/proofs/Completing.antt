-- A tree's text before what does not go on is read as the tree, unless the reader is too deep; and a deeper reader
-- answers the same where the other one is not too deep.
use Rattle.std.proofs.Common.{◌≡◌, ◌==◌, ℕ, zero, suc, Bool, true, false, cond, List, [], ◌∷◌, ◌++◌, length, Ok, Err, refl, sym, ap, ◌∙◌, subst, ◌⊎◌, inl, inr, append_assoc}
use Rattle.std.proofs.lemmas.Bool.{cond-true, cond-false, cond_both, false≢true, and_parts, not-true, eq-eqb}
use Rattle.prl_base.specs.Reading.{◌>>=◌}
use Rattle.prl_lex.specs.Vocabulary.{Lexeme, first_place, Grammar, token, give, action, both, either, many, placed, inner, written, disjoint, IsApart, Deep, Read, next_in, one_at, many_up_to}
use Rattle.prl_lex.specs.Vocabulary.{StopsBefore, Begins, then_shape, either_shape, many_shape, shape, read_with}
use Rattle.prl_lex.specs.Grammars.{Many}
use Rattle.prl_lex.specs.code.Reads.{Shape}
use Rattle.prl_lex.specs.code.Shapes.{read}
use Rattle.prl_lex.proofs.Basics.{stops_parts, apart}
use Rattle.prl_lex.proofs.Beginnings.{same_place, begins}

-- the same answer, or too deep
abbrev pub Under : {A : Type 0} → Read A → Read A → Type 0
Under r s = (r ≡ Err Deep) ⊎ (r ≡ s)

-- one reading after another, where the first answers so
then_under : {A B : Type 0} (r : Read A) (x : A × List Lexeme) (f : A × List Lexeme → Read B) (s : Read B) → Under r (Ok x) → Under (f x) s → Under (r >>= f) s
then_under r x f s (inl e) two = inl (ap (λ r. r >>= f) e)
then_under r x f s (inr e) (inl d) = inl (ap (λ r. r >>= f) e ∙ d)
then_under r x f s (inr e) (inr d) = inr (ap (λ r. r >>= f) e ∙ d)

after_under : {A B : Type 0} (r s : Read A) (f g : A × List Lexeme → Read B) → Under r s → ((x : A × List Lexeme) → Under (f x) (g x)) → Under (r >>= f) (s >>= g)
after_under r (Ok x) f g one two = then_under r x f (g x) one (two x)
after_under r (Err s) f g (inl e) two = inl (ap (λ r. r >>= f) e)
after_under r (Err s) f g (inr e) two = inr (ap (λ r. r >>= f) e)

made_under : {A B : Type 0} (f : A → B) (r s : Read A) → Under r s → Under (r >>= λ x. Ok (f x.0, x.1)) (s >>= λ x. Ok (f x.0, x.1))
made_under f r s one = after_under r s _ _ one (λ x. inr refl)

either_under : {A : Type 0} (b : Bool) (x y v w : Read A) → Under x v → Under y w → Under (cond b x y) (cond b v w)
either_under true x y v w one two = one
either_under false x y v w one two = two

many_under : {A : Type 0} (ks : List ℕ) (p q : List Lexeme → Read A) → ((ts : List Lexeme) → Under (p ts) (q ts)) → (n : ℕ) (ts : List Lexeme) → Under (many_up_to ks p n ts) (many_up_to ks q n ts)
unfolding many_up_to
many_under ks p q one zero ts = inr refl
many_under ks p q one (suc n) ts = either_under (next_in ks ts) _ _ _ _ (after_under (p ts) (q ts) _ _ (one ts) (λ x. made_under (λ xs. x.0 ∷ xs) (many_up_to ks p n x.1) (many_up_to ks q n x.1) (many_under ks p q one n x.1))) (inr refl)

module _ {R : Type 0} (i : Shape) (p q : List Lexeme → Read R) (one : (ts : List Lexeme) → Under (p ts) (q ts)) where
  pub deeper_read : {A : Type 0} (g : Grammar R A) (ts : List Lexeme) → Under (read i p g ts) (read i q g ts)
  deeper_read (token class) ts = inr refl
  deeper_read (give x) ts = inr refl
  deeper_read (action g f) ts = made_under f (read i p g ts) (read i q g ts) (deeper_read g ts)
  deeper_read (both g k) ts = after_under (read i p g ts) (read i q g ts) _ _ (deeper_read g ts) (λ x. made_under (λ b. (x.0, b)) (read i p k x.1) (read i q k x.1) (deeper_read k x.1))
  deeper_read (either g k) ts = either_under (next_in (shape i g).first ts) _ _ _ _ (deeper_read g ts) (deeper_read k ts)
  deeper_read (many g) ts = many_under (shape i g).first (read i p g) (read i q g) (deeper_read g) (length ts) ts
  deeper_read (placed g) ts = made_under (λ a. (first_place ts, a)) (read i p g ts) (read i q g ts) (deeper_read g ts)
  deeper_read inner ts = one ts

-- what comes after the second text, or this text itself, does not go on with the first
stops_between : (s r : Shape) (v rest : List Lexeme) → disjoint s.more r.first ≡ true → Begins r v → StopsBefore (then_shape s r).more rest → StopsBefore s.more (v ++ rest)
stops_between s r [] rest d b stops =
    let P : List ℕ → Type 0 = λ ks. StopsBefore ks rest in
    (stops_parts r.more s.more rest (subst P (cond-true r.nullable (r.more ++ s.more) r.more b) stops)).1
stops_between s r (t ∷ v) rest d b stops = apart s.more r.first t.class d b

stops_end : (s r : Shape) (rest : List Lexeme) → StopsBefore (then_shape s r).more rest → StopsBefore r.more rest
stops_end s r rest stops = cond_both r.nullable (r.more ++ s.more) r.more (λ ks. StopsBefore ks rest → StopsBefore r.more rest) (λ e h. (stops_parts r.more s.more rest h).0) (λ e h. h) stops

with_complete : {A B C : Type 0} (f : A → B → C) (p : List Lexeme → Read A) (q : List Lexeme → Read B) (a : A) (b : B) (u v w rest : List Lexeme) → w ≡ u ++ v → Under (p (u ++ (v ++ rest))) (Ok (a, v ++ rest)) → Under (q (v ++ rest)) (Ok (b, rest))
    → Under (read_with f p q (w ++ rest)) (Ok (f a b, rest))
with_complete {A} f p q a b u v w rest e one two =
    let P : List Lexeme → Type 0 = λ ts. Under (p ts) (Ok (a, v ++ rest)) in
    let same : u ++ (v ++ rest) ≡ w ++ rest = sym (append_assoc u v rest) ∙ ap (λ w. w ++ rest) (sym e) in
    then_under (p (w ++ rest)) (a, v ++ rest) _ _ (subst P same one) (then_under (q (v ++ rest)) (b, rest) _ _ two (inr refl))

-- a text that is not empty shows in the next token
shows : (s : Shape) (w rest : List Lexeme) → s.nullable ≡ false → Begins s w → next_in s.first (w ++ rest) ≡ true
shows s [] rest solid b = absurd (false≢true (sym solid ∙ b))
shows s (t ∷ w) rest solid b = b

hides : (ks : List ℕ) (rest : List Lexeme) → StopsBefore ks rest → next_in ks rest ≡ false
hides ks [] stops = refl
hides ks (t ∷ rest) stops = stops

-- the second of two does not begin as the first
hides_first : (s r : Shape) (w rest : List Lexeme) → disjoint s.first r.first ≡ true → Begins r w → StopsBefore (either_shape s r).more rest → next_in s.first (w ++ rest) ≡ false
hides_first s r [] rest d b stops =
    let P : List ℕ → Type 0 = λ ks. StopsBefore ks rest in
    hides s.first rest (subst P (cond-true r.nullable s.first [] b) (stops_parts (s.more ++ r.more) _ rest stops).1)
hides_first s r (t ∷ w) rest d b stops = apart s.first r.first t.class d b

module _ {A : Type 0} (W : A → List Lexeme → Type 0) (s : Shape) (p : List Lexeme → Read A) (solid : s.nullable ≡ false) (apart_more : disjoint s.more s.first ≡ true) (begun : (a : A) (w : List Lexeme) → W a w → Begins s w)
    (begun_many : (xs : List A) (w : List Lexeme) → Many W xs w → Begins (many_shape s) w) (one : (a : A) (w rest : List Lexeme) → W a w → StopsBefore s.more rest → Under (p (w ++ rest)) (Ok (a, rest))) where
  stops_again : (v rest : List Lexeme) → Begins (many_shape s) v → StopsBefore (s.first ++ s.more) rest → StopsBefore s.more (v ++ rest)
  stops_again [] rest b stops = (stops_parts s.first s.more rest stops).1
  stops_again (t ∷ v) rest b stops = apart s.more s.first t.class apart_more b

  -- the first of them shows
  next : (a : A) (xs : List A) (w rest : List Lexeme) → Many W (a ∷ xs) w → next_in s.first (w ++ rest) ≡ true
  next a xs w rest h = ap (λ w. next_in s.first (w ++ rest)) h.2 ∙ ap (next_in s.first) (append_assoc h.0 h.1 rest) ∙ shows s h.0 (h.1 ++ rest) solid (begun a h.0 h.3)

  many_complete : (n : ℕ) (xs : List A) (w rest : List Lexeme) → Many W xs w → StopsBefore (s.first ++ s.more) rest → Under (many_up_to s.first p n (w ++ rest)) (Ok (xs, rest))
  unfolding many_up_to
  many_complete zero [] w rest h stops = inr (ap (λ w. many_up_to s.first p zero (w ++ rest)) h ∙ cond-false _ _ _ (hides s.first rest (stops_parts s.first s.more rest stops).0))
  many_complete (suc n) [] w rest h stops = inr (ap (λ w. many_up_to s.first p (suc n) (w ++ rest)) h ∙ cond-false _ _ _ (hides s.first rest (stops_parts s.first s.more rest stops).0))
  many_complete zero (a ∷ xs) w rest h stops = inl (cond-true _ _ _ (next a xs w rest h))
  many_complete (suc n) (a ∷ xs) w rest h stops =
      let P : Read (List A) → Type 0 = λ r. Under r (Ok (a ∷ xs, rest)) in
      subst P (sym (cond-true (next_in s.first (w ++ rest)) _ _ (next a xs w rest h)))
      (with_complete (λ a xs. a ∷ xs) p (many_up_to s.first p n) a xs h.0 h.1 w rest h.2 (one a h.0 (h.1 ++ rest) h.3 (stops_again h.1 rest (begun_many xs h.1 h.4) stops)) (many_complete n xs h.1 rest h.4 stops))

module _ {R : Type 0} (i : Shape) (I : R → List Lexeme → Type 0) (p : List Lexeme → Read R) (begun : (t : R) (w : List Lexeme) → I t w → Begins i w)
    (inside : (t : R) (w rest : List Lexeme) → I t w → StopsBefore i.more rest → Under (p (w ++ rest)) (Ok (t, rest))) where
  pub complete : {A : Type 0} (g : Grammar R A) → IsApart i g → (a : A) (w rest : List Lexeme) → written I g a w → StopsBefore (shape i g).more rest → Under (read i p g (w ++ rest)) (Ok (a, rest))
  complete (token class) h t w rest m stops = inr (ap (λ w. one_at class (w ++ rest)) m.whole ∙ cond-true (t.class == class) _ _ (eq-eqb t.class class m.is))
  complete (give x) h a w rest m stops = inr (ap (λ w. Ok (x, w ++ rest)) m.whole ∙ ap (λ a. Ok (a, rest)) (sym m.is))
  complete (action g f) h b w rest m stops = then_under (read i p g (w ++ rest)) (m.0, rest) _ _ (complete g h m.0 w rest m.2 stops) (inr (ap (λ b. Ok (b, rest)) (sym m.1)))
  complete (both g k) h x w rest m stops =
      let all = and_parts _ _ h in
      let parts = and_parts _ _ all.0 in
      with_complete (λ a b. (a, b)) (read i p g) (read i p k) x.0 x.1 m.0 m.1 w rest m.2
      (complete g parts.0 x.0 m.0 (m.1 ++ rest) m.3 (stops_between (shape i g) (shape i k) m.1 rest all.1 (begins i I begun k x.1 m.1 m.4) stops))
      (complete k parts.1 x.1 m.1 rest m.4 (stops_end (shape i g) (shape i k) rest stops))
  complete (either g k) h a w rest (inl m) stops =
      let all = and_parts _ _ h in
      let P : Read _ → Type 0 = λ r. Under r (Ok (a, rest)) in
      subst P (sym (cond-true (next_in (shape i g).first (w ++ rest)) _ _ (shows (shape i g) w rest (not-true _ (and_parts _ _ all.1).0) (begins i I begun g a w m))))
      (complete g (and_parts _ _ all.0).0 a w rest m (stops_parts (shape i g).more (shape i k).more rest (stops_parts ((shape i g).more ++ (shape i k).more) _ rest stops).0).0)
  complete (either g k) h a w rest (inr m) stops =
      let all = and_parts _ _ h in
      let P : Read _ → Type 0 = λ r. Under r (Ok (a, rest)) in
      subst P (sym (cond-false (next_in (shape i g).first (w ++ rest)) _ _ (hides_first (shape i g) (shape i k) w rest (and_parts _ _ all.1).1 (begins i I begun k a w m) stops)))
      (complete k (and_parts _ _ all.0).1 a w rest m (stops_parts (shape i g).more (shape i k).more rest (stops_parts ((shape i g).more ++ (shape i k).more) _ rest stops).0).1)
  complete (many g) h xs w rest m stops =
      let all = and_parts _ _ h in
      let parts = and_parts _ _ all.0 in
      many_complete (written I g) (shape i g) (read i p g) (not-true _ parts.1) all.1 (begins i I begun g) (begins i I begun (many g)) (complete g parts.0) (length (w ++ rest)) xs w rest m stops
  complete (placed g) h x w rest m stops =
      let parts = and_parts _ _ h in
      then_under (read i p g (w ++ rest)) (x.1, rest) _ _ (complete g parts.0 x.1 w rest m.1 stops)
      (inr (ap (λ at. Ok ((at, x.1), rest)) (same_place (shape i g) w rest (not-true _ parts.1) (begins i I begun g x.1 w m.1) ∙ sym m.0)))
  complete inner h t w rest m stops = inside t w rest m stops
