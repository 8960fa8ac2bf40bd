-- A loop that reads one list after another gives what the reader of many gives.
use Rattle.prl_base.proofs.Standard.{◌≡◌, ℕ, true, false, List, ◌∷◌, ◌++◌, Ok, Err, refl, sym, ap, ◌∙◌, append_assoc, cond-true, cond-false, append-nil}
use Rattle.prl_base.specs.Reading.{◌>>=◌, FailsAs}
use Rattle.prl_lex.specs.Vocabulary.{Lexeme, Read, next_in, many_at, stop_of}
use Rattle.prl_lex.specs.declared.reading.Stop.{Stop}
use Rattle.prl_lex.specs.declared.reading.Stop.TheVariants as stops
use Rattle.prl_lex.proofs.Loops.{Steps, step_fewer}
use Rattle.prl_syntax.specs.Vocabulary.{joined, with_joined}

regroup_joined : {A : Type 0} (front a : List A) (r : Read (List (List A))) → with_joined front (r >>= λ x. Ok (a ∷ x.0, x.1)) ≡ with_joined (front ++ a) r
regroup_joined front a (Ok x) = ap (λ xs. Ok (xs, x.1)) (sym (append_assoc front a (joined x.0)))
regroup_joined front a (Err e) = refl

pub goes_on_joined : {A : Type 0} {ks : List ℕ} {p : List Lexeme → Read (List A)} → Steps ks p → (front next : List A) (rest after : List Lexeme) (a : List A) → next_in ks rest ≡ true → p rest ≡ Ok (a, after) → next ≡ front ++ a
    → with_joined next (many_at ks p after) ≡ with_joined front (many_at ks p rest)
goes_on_joined {A} {ks} {p} s front next rest after a n e same =
    ap (λ xs. with_joined xs (many_at ks p after)) same
    ∙ sym (ap (with_joined front) (s.step rest ∙ cond-true (next_in ks rest) _ _ n ∙ ap (λ r. r >>= λ x. (many_at ks p x.1 >>= λ y. Ok (x.0 ∷ y.0, y.1))) e) ∙ regroup_joined front a (many_at ks p after))

pub halts_joined : {A : Type 0} {ks : List ℕ} {p : List Lexeme → Read (List A)} → Steps ks p → (front : List A) (rest : List Lexeme) → next_in ks rest ≡ false → with_joined front (many_at ks p rest) ≡ Ok (front, rest)
halts_joined {A} {ks} {p} s front rest n =
    ap (with_joined front) (s.step rest ∙ cond-false (next_in ks rest) _ _ n) ∙ ap (λ xs. Ok (xs, rest)) (append-nil front)

pub fails_joined : {A : Type 0} {ks : List ℕ} {p : List Lexeme → Read (List A)} → Steps ks p → (e : Stop) (front : List A) (rest : List Lexeme) (total : Read (List A)) → next_in ks rest ≡ true → FailsAs (stop_of e) (p rest)
    → with_joined front (many_at ks p rest) ≡ total → FailsAs (stop_of e) total
fails_joined {A} {ks} {p} s stops.Memory front rest total n h so_far = tt
fails_joined {A} {ks} {p} s (stops.Unexpected left) front rest total n h so_far =
    sym so_far ∙ ap (with_joined front) (s.step rest ∙ cond-true (next_in ks rest) _ _ n ∙ ap (λ r. r >>= λ x. (many_at ks p x.1 >>= λ y. Ok (x.0 ∷ y.0, y.1))) h)

-- what a loop needs that takes one list after another
pub ruleset joined_loops = (goes_on_joined, halts_joined, fails_joined, step_fewer)
