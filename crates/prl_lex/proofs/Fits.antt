-- What stands at the front of a text has a byte at least, and lies in the text.
use Rattle.prl_base.proofs.Standard.{◌≡◌, ◌==◌, ℕ, zero, suc, ◌+◌, ◌<◌, ◌≤◌, ◌||◌, true, false, cond, List, [], ◌∷◌, length, take, drop, Option, Some, None, refl, ap, arith, not, cond_both, or_parts}
use Rattle.prl_base.proofs.Standard.{false≢true, prefix_len-le-length, option_map}
use Rattle.std.specs.Option.{IfSome}
use Rattle.prl_lex.specs.declared.pieces.Piece.TheVariants as pieces
use Rattle.prl_lex.specs.Tokens.{is_token, longest_up_to, longest, token_of_len, is_blank, begins, line_len, closing_len, closed, piece_of, FitsPiece}

FitsLen : List ℕ → ℕ → ℕ → Type 0
FitsLen text n k = (k ≤ n) × (0 < k → is_token (take k text) ≡ true)

longest_fits : (n : ℕ) (text : List ℕ) → FitsLen text n (longest_up_to n text)
unfolding longest_up_to FitsLen
longest_fits zero text = (omega arith, λ lt. absurd (omega arith))
longest_fits (suc n) text = cond_both (is_token (take (suc n) text)) (suc n) (longest_up_to n text) (FitsLen text (suc n))
    (λ token. (omega arith, λ _. token))
    (λ _. let below : FitsLen text n (longest_up_to n text) = longest_fits n text in (omega (arith, below.0), below.1))

token_fits : (text : List ℕ) (k : ℕ) → FitsLen text (length text) k → FitsPiece text (token_of_len text k)
unfolding FitsLen
token_fits text zero fits = tt
token_fits text (suc k) fits = (omega arith, fits.0, refl, fits.1 (omega arith))

line_fits : (b : ℕ) (bs : List ℕ) → is_blank b ≡ false → FitsPiece (b ∷ bs) (pieces.Gap (line_len (b ∷ bs)))
line_fits b bs other =
    let no_feed : (b == 10) ≡ false = (or_parts ((b == 32) || (b == 9) || (b == 13)) (b == 10) other).1 in
    let e : line_len (b ∷ bs) ≡ 1 + line_len bs = ap (λ t. cond (not t) (1 + line_len bs) 0) no_feed in
    (omega (arith, e), prefix_len-le-length (λ b. not (b == 10)) (b ∷ bs))

one_fits : (n : ℕ) (o : Option ℕ) → IfSome o (λ k. k ≤ n) → IfSome (option_map (λ k. k + 1) o) (λ k. k ≤ suc n)
one_fits n None h = h
one_fits n (Some k) h = omega arith

closing_fits : (xs : List ℕ) → IfSome (closing_len xs) (λ k. k ≤ length xs)
closing_fits [] = tt
closing_fits (b ∷ []) = tt
closing_fits (b ∷ c ∷ bs) = cond_both (begins 42 41 (b ∷ c ∷ bs)) (Some 2) _ (λ o. IfSome o (λ k. k ≤ length (b ∷ c ∷ bs)))
    (λ _. omega arith)
    (λ _. one_fits (length (c ∷ bs)) (closing_len (c ∷ bs)) (closing_fits (c ∷ bs)))

comment_fits : (b : ℕ) (bs : List ℕ) → begins 40 42 (b ∷ bs) ≡ true → FitsPiece (b ∷ bs) (closed (closing_len (drop 1 bs)))
comment_fits b [] e = absurd (false≢true e)
comment_fits b (c ∷ bs) e = of_closing (closing_len bs) (closing_fits bs)
  where
    of_closing : (o : Option ℕ) → IfSome o (λ k. k ≤ length bs) → FitsPiece (b ∷ c ∷ bs) (closed o)
    of_closing None h = tt
    of_closing (Some k) h = (omega arith, omega arith)

pub piece_of_fits : (text : List ℕ) → FitsPiece text (piece_of text)
piece_of_fits [] = tt
piece_of_fits (b ∷ bs) =
    let text : List ℕ = b ∷ bs in
    cond_both (is_blank b) _ _ (FitsPiece text) (λ _. (omega arith, omega arith))
    (λ other. cond_both (begins 45 45 text) _ _ (FitsPiece text) (λ _. line_fits b bs other)
    (λ _. cond_both (begins 40 42 text) _ _ (FitsPiece text) (comment_fits b bs)
    (λ _. token_fits text (longest text) (longest_fits (length text) text))))
