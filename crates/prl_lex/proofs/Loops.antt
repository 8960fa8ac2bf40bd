-- A loop that reads one text after another gives what the grammar of many gives.
use Rattle.prl_base.proofs.Standard.{◌≡◌, ◌<◌, ℕ, true, false, List, [], ◌∷◌, ◌++◌, length, Ok, Err, refl, sym, ap, ◌∙◌, append_assoc, cond-true, cond-false, and_parts, append-nil, map_push}
use Rattle.prl_base.specs.Reading.{◌>>=◌, FailsAs}
use Rattle.prl_lex.specs.Vocabulary.{Lexeme, Read, next_in, choice, many_at, stop_of, Stop, Grammar, many, shape, read_with, Language, inner_of, read_at, with_front, IsApart}
use Rattle.prl_lex.specs.declared.reading.Stop.TheVariants as stops
use Rattle.prl_lex.proofs.Continuing.{many_step}
use Rattle.prl_lex.proofs.Nesting.{IsRight, text_fewer}

-- the reader of many reads one and the others
pub record Steps {A : Type 0} (ks : List ℕ) (p : List Lexeme → Read A) : Type 0 where
  pub step : (ts : List Lexeme) → many_at ks p ts ≡ choice ks (read_with (λ a xs. a ∷ xs) p (many_at ks p)) (λ ts. Ok ([], ts)) ts
  pub fewer : (ts : List Lexeme) (a : A) (rest : List Lexeme) → p ts ≡ Ok (a, rest) → length rest < length ts

regroup : {A : Type 0} (front : List A) (a : A) (r : Read (List A)) → with_front front (r >>= λ x. Ok (a ∷ x.0, x.1)) ≡ with_front (front ++ a ∷ []) r
regroup front a (Ok x) = ap (λ xs. Ok (xs, x.1)) (sym (append_assoc front (a ∷ []) x.0))
regroup front a (Err e) = refl

pub step_goes_on : {A : Type 0} {ks : List ℕ} {p : List Lexeme → Read A} → Steps ks p → (front next : List A) (rest after : List Lexeme) (a : A) → next_in ks rest ≡ true → p rest ≡ Ok (a, after) → next ≡ front ++ a ∷ []
    → with_front next (many_at ks p after) ≡ with_front front (many_at ks p rest)
step_goes_on {A} {ks} {p} s front next rest after a n e same =
    ap (λ xs. with_front xs (many_at ks p after)) same
    ∙ sym (ap (with_front front) (s.step rest ∙ cond-true (next_in ks rest) _ _ n ∙ ap (λ r. r >>= λ x. (many_at ks p x.1 >>= λ y. Ok (x.0 ∷ y.0, y.1))) e) ∙ regroup front a (many_at ks p after))

pub step_halts : {A : Type 0} {ks : List ℕ} {p : List Lexeme → Read A} → Steps ks p → (front : List A) (rest : List Lexeme) → next_in ks rest ≡ false → with_front front (many_at ks p rest) ≡ Ok (front, rest)
step_halts {A} {ks} {p} s front rest n =
    ap (with_front front) (s.step rest ∙ cond-false (next_in ks rest) _ _ n) ∙ ap (λ xs. Ok (xs, rest)) (append-nil front)

pub step_fails : {A : Type 0} {ks : List ℕ} {p : List Lexeme → Read A} → Steps ks p → (e : Stop) (front : List A) (rest : List Lexeme) (total : Read (List A)) → next_in ks rest ≡ true → FailsAs (stop_of e) (p rest)
    → with_front front (many_at ks p rest) ≡ total → FailsAs (stop_of e) total
step_fails {A} {ks} {p} s stops.Memory front rest total n h so_far = tt
step_fails {A} {ks} {p} s (stops.Unexpected left) front rest total n h so_far =
    sym so_far ∙ ap (with_front front) (s.step rest ∙ cond-true (next_in ks rest) _ _ n ∙ ap (λ r. r >>= λ x. (many_at ks p x.1 >>= λ y. Ok (x.0 ∷ y.0, y.1))) h)

pub step_fewer : {A : Type 0} {ks : List ℕ} {p : List Lexeme → Read A} → Steps ks p → (ts : List Lexeme) (a : A) (rest : List Lexeme) → p ts ≡ Ok (a, rest) → length rest < length ts
step_fewer s = s.fewer

-- nothing was read before
pub none_before : {A : Type 0} (front : List A) (r : Read (List A)) → front ≡ [] → with_front front r ≡ r
none_before front (Ok x) e = ap (λ f. Ok (f ++ x.0, x.1)) e
none_before front (Err s) e = refl

-- what a loop needs that takes one after another
pub ruleset loops = (step_goes_on, step_halts, step_fails, step_fewer, none_before, map_push)

-- where a grammar is read
pub steps : {R A : Type 0} {l : Language R} → IsRight l → (g : Grammar R A) → IsApart (inner_of l) (many g) → Steps (shape (inner_of l) g).first (read_at l g)
steps {l = l} right g loop = let less = text_fewer l right g (and_parts _ _ loop).0 in record { step = many_step _ _ less; fewer = less }
