-- Languages are read as deep as their tokens reach, and each list of tokens has an answer.
use Rattle.std.proofs.Common.{◌≡◌, ◌<◌, ◌≤◌, true, false, ℕ, zero, suc, List, [], ◌∷◌, ◌++◌, length, Ok, refl, sym, ap, ◌∙◌, subst, inl, inr, ⊎_elim, arith, length-append}
use Rattle.std.proofs.lemmas.Bool.{cases_lt, false≢true, true≢false}
use Rattle.prl_lex.specs.Vocabulary.{Lexeme, Grammar, placed, Language, within, nested, Text, inner_of, read_within, read_nested, read_at, IsApart, is_guarded, is_founded, Read, Begins}
use Rattle.prl_lex.specs.Vocabulary.{StopsBefore, shape}
use Rattle.prl_lex.specs.code.Reads.{Shape}
use Rattle.prl_lex.proofs.Answers.{Taken, Told, told_as, told}
use Rattle.prl_lex.proofs.Basics.{contained, inside, stops_inside}
use Rattle.prl_lex.proofs.Beginnings.{Some, begins, example}
use Rattle.prl_lex.proofs.Completing.{Under, deeper_read, complete}
use Rattle.prl_lex.proofs.Continuing.{Continues, deep_continues, at_length, continues, leaves_fewer}
use Rattle.prl_lex.proofs.Growing.{to_nested, from_nested}

-- One token of look-ahead decides in the language.
pub record IsRight {R : Type 0} (l : Language R) : Type 0 where
  pub apart : IsApart (inner_of l) l.body
  pub guarded : is_guarded (inner_of l) l.body ≡ true
  pub founded : is_founded l.body ≡ true
  -- the shape of what stands in parentheses is that of the grammar
  pub nullable : (shape (inner_of l) l.body).nullable ≡ (inner_of l).nullable
  pub first : contained (shape (inner_of l) l.body).first (inner_of l).first ≡ true
  pub more : contained (shape (inner_of l) l.body).more (inner_of l).more ≡ true

-- The reader reads the grammar: its answers are so, and hang on the next token alone, and a tree's text before what does
-- not go on is read as the tree.
pub record Reads {A : Type 0} (W : A → List Lexeme → Type 0) (s : Shape) (p : List Lexeme → Read A) : Type 0 where
  pub told : (ts : List Lexeme) → Told ⊥ W ts (p ts)
  pub continues : Continues p
  pub complete : (a : A) (w rest : List Lexeme) → W a w → StopsBefore s.more rest → p (w ++ rest) ≡ Ok (a, rest)

-- an answer that is told is not too deep
settled : {A : Type 0} (W : A → List Lexeme → Type 0) (ts : List Lexeme) (r s : Read A) → Told ⊥ W ts r → Under r s → r ≡ s
settled W ts r s t (inl e) = let P : Read _ → Type 0 = Told ⊥ W ts in absurd (subst P e t)
settled W ts r s t (inr e) = e

module _ {R : Type 0} (l : Language R) (right : IsRight l) where
  some : Some (nested l)
  unfolding nested within
  some = let e = example (within l 0) l.body (λ e. absurd (true≢false (sym right.founded ∙ e))) in (e.0, e.1, (1, e.2))

  widened : (w : List Lexeme) → Begins (shape (inner_of l) l.body) w → Begins (inner_of l) w
  widened [] b = sym right.nullable ∙ b
  widened (t ∷ w) b = inside _ _ t.class right.first b

  begins_within : (n : ℕ) (t : R) (w : List Lexeme) → within l n t w → Begins (inner_of l) w
  unfolding within
  begins_within zero t w h = absurd h
  begins_within (suc n) t w h = widened w (begins (inner_of l) (within l n) (begins_within n) l.body t w h)

  begun : (t : R) (w : List Lexeme) → nested l t w → Begins (inner_of l) w
  unfolding nested
  begun t w h = begins_within h.0 t w h.1

  -- a reader is too deep only where there are as many tokens
  told_within : (n : ℕ) (ts : List Lexeme) → Told (n ≤ length ts) (nested l) ts (read_within l n ts)
  unfolding read_within
  told_within zero ts = omega arith
  told_within (suc n) ts =
      told_as ts (read_within l (suc n) ts) (λ d. (let lt : length d.0 < length ts = d.1 in let le : n ≤ length d.0 = d.2 in omega arith)) (to_nested l)
      (told (inner_of l) (nested l) (read_within l n) (λ us. n ≤ length us) begun some (told_within n) true l.body right.apart (λ e. right.guarded) ts)

  told_enough : (n : ℕ) (ts : List Lexeme) → length ts < n → Told ⊥ (nested l) ts (read_within l n ts)
  told_enough n ts lt = told_as ts (read_within l n ts) (λ le. absurd (omega arith)) (λ a w h. h) (told_within n ts)

  under : (n m : ℕ) → n ≤ m → (ts : List Lexeme) → Under (read_within l n ts) (read_within l m ts)
  unfolding read_within
  under zero m le ts = inl refl
  under (suc n) zero le ts = absurd (omega arith)
  under (suc n) (suc m) le ts = deeper_read (inner_of l) (read_within l n) (read_within l m) (under n m (omega arith)) l.body ts

  -- more depth answers the same
  agree : (n m : ℕ) (ts : List Lexeme) → length ts < n → length ts < m → read_within l n ts ≡ read_within l m ts
  agree n m ts a b = ⊎_elim
      (λ lt. settled (nested l) ts _ _ (told_enough n ts a) (under n m (omega arith) ts))
      (λ le. sym (settled (nested l) ts _ _ (told_enough m ts b) (under m n le ts)))
      (cases_lt n m)

  under_nested : (n : ℕ) (ts : List Lexeme) → Under (read_within l n ts) (read_nested l ts)
  unfolding read_nested
  under_nested n ts = ⊎_elim (λ lt. under n (suc (length ts)) (omega arith) ts) (λ le. inr (agree n (suc (length ts)) ts (omega arith) (omega arith))) (cases_lt n (suc (length ts)))

  -- what stands in parentheses is read by the grammar
  pub nested_step : (ts : List Lexeme) → read_nested l ts ≡ read_at l l.body ts
  unfolding read_nested read_within
  nested_step ts = settled (nested l) ts _ _ (told_enough (suc (length ts)) ts (omega arith)) (deeper_read (inner_of l) (read_within l (length ts)) (read_nested l) (under_nested (length ts)) l.body ts)

  nested_told : (ts : List Lexeme) → Told ⊥ (nested l) ts (read_nested l ts)
  unfolding read_nested
  nested_told ts = told_enough (suc (length ts)) ts (omega arith)

  within_continues : (n : ℕ) → Continues (read_within l n)
  unfolding read_within
  within_continues zero = deep_continues
  within_continues (suc n) = continues (inner_of l) (nested l) (read_within l n) (λ us. n ≤ length us) begun some (told_within n) (within_continues n) l.body right.apart

  nested_continues : Continues (read_nested l)
  unfolding read_nested
  nested_continues = at_length (λ n. read_within l (suc n)) (λ n m ts a b. agree (suc n) (suc m) ts (omega arith) (omega arith)) (λ n. within_continues (suc n))

  within_complete : (n : ℕ) (t : R) (w rest : List Lexeme) → nested l t w → StopsBefore (inner_of l).more rest → Under (read_within l n (w ++ rest)) (Ok (t, rest))
  unfolding read_within
  within_complete zero t w rest h stops = inl refl
  within_complete (suc n) t w rest h stops =
      complete (inner_of l) (nested l) (read_within l n) begun (within_complete n) l.body right.apart t w rest (from_nested l t w h) (stops_inside _ _ rest right.more stops)

  nested_complete : (t : R) (w rest : List Lexeme) → nested l t w → StopsBefore (inner_of l).more rest → Under (read_nested l (w ++ rest)) (Ok (t, rest))
  unfolding read_nested
  nested_complete t w rest = within_complete (suc (length (w ++ rest))) t w rest

  module _ {A : Type 0} (g : Grammar R A) (apart : IsApart (inner_of l) g) where
    text_told : (ts : List Lexeme) → Told ⊥ (Text l g) ts (read_at l g ts)
    text_told ts = told_as ts (read_at l g ts) (λ d. d.2) (λ a w h. h) (told (inner_of l) (nested l) (read_nested l) (λ us. ⊥) begun some nested_told false g apart (λ e. absurd (false≢true e)) ts)

    -- whatever is built of it is read
    pub text_reads : Reads (Text l g) (shape (inner_of l) g) (read_at l g)
    text_reads = record {
      told = text_told;
      continues = continues (inner_of l) (nested l) (read_nested l) (λ us. ⊥) begun some nested_told nested_continues g apart;
      complete = λ a w rest h stops. settled (Text l g) (w ++ rest) _ _ (text_told (w ++ rest)) (complete (inner_of l) (nested l) (read_nested l) begun nested_complete g apart a w rest h stops);
    }

    -- each text leaves no more tokens
    pub text_left : (ts : List Lexeme) (a : A) (rest : List Lexeme) → read_at l g ts ≡ Ok (a, rest) → length rest ≤ length ts
    text_left ts a rest e =
        let P : Read A → Type 0 = Told ⊥ (Text l g) ts in
        let t : Taken (Text l g) ts a rest = subst P e (text_told ts) in
        omega (arith, ap length t.whole, length-append t.text rest)

  -- and one that is not empty fewer
  pub text_fewer : {A : Type 0} (g : Grammar R A) → IsApart (inner_of l) (placed g) → (ts : List Lexeme) (a : A) (rest : List Lexeme) → read_at l g ts ≡ Ok (a, rest) → length rest < length ts
  text_fewer = leaves_fewer (inner_of l) (nested l) (read_nested l) (λ us. ⊥) begun some nested_told
