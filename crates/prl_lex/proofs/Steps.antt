-- A loop that takes one piece after another gives the tokens of the text.
use Rattle.std.proofs.Common.{◌≡◌, ℕ, zero, suc, ◌+◌, ◌-◌, ◌<◌, ◌≤◌, List, [], ◌∷◌, ◌++◌, length, take, drop, Result, Ok, Err, refl, sym, ap, ◌∙◌, arith, append_assoc, length-drop}
use Rattle.std.proofs.lemmas.List.{drop-drop, drop_all, append-nil}
use Rattle.prl_base.specs.Reading.{◌>>=◌}
use Rattle.prl_lex.specs.Vocabulary.{Kind, Token, LexFault, Piece, piece_of, FitsPiece, depth_after, checked, with_piece, tokens_from}
use Rattle.prl_lex.specs.declared.tokens.LexFault.TheVariants as faults
use Rattle.prl_lex.specs.declared.pieces.Piece.TheVariants as pieces

-- the bytes that are passed over
skip : (n at depth : ℕ) (text : List ℕ) → n ≤ length text → tokens_from at depth n text ≡ tokens_from (at + n) depth 0 (drop n text)
unfolding tokens_from
skip zero at depth text le = let e : at ≡ at + 0 = omega arith in ap (λ i. tokens_from i depth 0 text) e
skip (suc n) at depth [] le = refl
skip (suc n) at depth (b ∷ bs) le =
    let e : at + 1 + n ≡ at + suc n = omega arith in
    skip n (at + 1) depth bs (omega arith) ∙ ap (λ i. tokens_from i depth 0 (drop n bs)) e

-- tokens that were read before
abbrev pub with_front : List Token → Result (List Token) LexFault → Result (List Token) LexFault
with_front front read = do
  tokens ← read
  Ok (front ++ tokens)

-- what follows a piece of a text
abbrev pub after_piece : ℕ → ℕ → List ℕ → Piece → Result (List Token) LexFault
after_piece at depth text pieces.Bad = Err (faults.BadToken at)
after_piece at depth text (pieces.Gap n) = tokens_from (at + n) depth 0 (drop n text)
after_piece at depth text (pieces.Token kind n) = do
  token ← checked at (depth_after depth (take n text)) kind (take n text)
  with_front (token ∷ []) (tokens_from (at + n) (depth_after depth (take n text)) 0 (drop n text))

later : (at depth n b : ℕ) (bs : List ℕ) → 0 < n → n ≤ length (b ∷ bs) → tokens_from (at + 1) depth (n - 1) bs ≡ tokens_from (at + n) depth 0 (drop n (b ∷ bs))
later at depth zero b bs lt le = absurd (omega arith)
later at depth (suc n) b bs lt le =
    let e : suc n - 1 ≡ n = omega arith in
    let f : at + 1 + n ≡ at + suc n = omega arith in
    ap (λ i. tokens_from (at + 1) depth i bs) e ∙ skip n (at + 1) depth bs (omega arith) ∙ ap (λ i. tokens_from i depth 0 (drop n bs)) f

piece_step : (at depth b : ℕ) (bs : List ℕ) (piece : Piece) → FitsPiece (b ∷ bs) piece
    → with_piece at depth (b ∷ bs) piece (λ deep past. tokens_from (at + 1) deep past bs) ≡ after_piece at depth (b ∷ bs) piece
piece_step at depth b bs pieces.Bad fits = refl
piece_step at depth b bs (pieces.Gap n) fits = later at depth n b bs fits.0 fits.1
piece_step at depth b bs (pieces.Token kind n) fits =
    let deep : ℕ = depth_after depth (take n (b ∷ bs)) in
    ap (λ r. checked at deep kind (take n (b ∷ bs)) >>= λ token. (r >>= λ tokens. Ok (token ∷ tokens))) (later at deep n b bs fits.0 fits.1)

-- one piece, and what follows it
pub step : (at depth : ℕ) (text : List ℕ) (piece : Piece) → 0 < length text → piece ≡ piece_of text → FitsPiece text piece → tokens_from at depth 0 text ≡ after_piece at depth text piece
unfolding tokens_from
step at depth [] piece lt e fits = absurd (omega arith)
step at depth (b ∷ bs) piece lt e fits =
    ap (λ p. with_piece at depth (b ∷ bs) p (λ deep past. tokens_from (at + 1) deep past bs)) (sym e) ∙ piece_step at depth b bs piece fits

-- where the loop stands: what is left of the text, what stands at its front, and what was read so far
pub record Stands (text rest : List ℕ) (at depth : ℕ) (front : List Token) (piece : Piece) (total : Result (List Token) LexFault) : Type 0 where
  pub left : at < length text
  pub rest_is : rest ≡ drop at text
  pub piece_is : piece ≡ piece_of rest
  pub fits : FitsPiece rest piece
  pub so_far : with_front front (tokens_from at depth 0 (drop at text)) ≡ total

one_step : (text rest : List ℕ) (at depth : ℕ) (front : List Token) (piece : Piece) (total : Result (List Token) LexFault) → Stands text rest at depth front piece total
    → with_front front (after_piece at depth rest piece) ≡ total
one_step text rest at depth front piece total s =
    let some : 0 < length rest = omega (arith, ap length s.rest_is, length-drop at text) in
    ap (with_front front) (sym (step at depth rest piece some s.piece_is s.fits) ∙ ap (tokens_from at depth 0) s.rest_is) ∙ s.so_far

further : (text rest : List ℕ) (at n depth : ℕ) → rest ≡ drop at text → tokens_from (at + n) depth 0 (drop n rest) ≡ tokens_from (at + n) depth 0 (drop (at + n) text)
further text rest at n depth e = ap (tokens_from (at + n) depth 0) (ap (drop n) e ∙ drop-drop n at text)

pub gap_step : (text rest : List ℕ) (at depth n : ℕ) (front : List Token) (total : Result (List Token) LexFault) → Stands text rest at depth front (pieces.Gap n) total
    → with_front front (tokens_from (at + n) depth 0 (drop (at + n) text)) ≡ total
gap_step text rest at depth n front total s =
    ap (with_front front) (sym (further text rest at n depth s.rest_is)) ∙ one_step text rest at depth front (pieces.Gap n) total s

pub bad_step : (text rest : List ℕ) (at depth : ℕ) (front : List Token) (total : Result (List Token) LexFault) → Stands text rest at depth front pieces.Bad total → total ≡ Err (faults.BadToken at)
bad_step text rest at depth front total s = sym (one_step text rest at depth front pieces.Bad total s)

regroup : (front : List Token) (t : Token) (read : Result (List Token) LexFault) → with_front front (with_front (t ∷ []) read) ≡ with_front (front ++ t ∷ []) read
regroup front t (Ok ts) = ap Ok (sym (append_assoc front (t ∷ []) ts))
regroup front t (Err e) = refl

pub token_step : (text rest bytes : List ℕ) (at depth n deep : ℕ) (kind : Kind) (front : List Token) (token : Token) (total : Result (List Token) LexFault) → Stands text rest at depth front (pieces.Token kind n) total
    → bytes ≡ take n rest → deep ≡ depth_after depth bytes → checked at deep kind bytes ≡ Ok token
    → with_front (front ++ token ∷ []) (tokens_from (at + n) deep 0 (drop (at + n) text)) ≡ total
token_step text rest bytes at depth n deep kind front token total s e f g =
    let deep_is : depth_after depth (take n rest) ≡ deep = ap (depth_after depth) (sym e) ∙ sym f in
    let ok : checked at deep kind (take n rest) ≡ Ok token = ap (checked at deep kind) (sym e) ∙ g in
    let later : Result (List Token) LexFault = tokens_from (at + n) deep 0 (drop n rest) in
    sym (ap (λ d. with_front front (checked at d kind (take n rest) >>= λ t. with_front (t ∷ []) (tokens_from (at + n) d 0 (drop n rest)))) deep_is
    ∙ ap (λ r. with_front front (r >>= λ t. with_front (t ∷ []) later)) ok
    ∙ regroup front token later
    ∙ ap (with_front (front ++ token ∷ [])) (further text rest at n deep s.rest_is))
    ∙ one_step text rest at depth front (pieces.Token kind n) total s

pub fault_step : (text rest bytes : List ℕ) (at depth n deep : ℕ) (kind : Kind) (front : List Token) (fault : LexFault) (total : Result (List Token) LexFault) → Stands text rest at depth front (pieces.Token kind n) total
    → bytes ≡ take n rest → deep ≡ depth_after depth bytes → checked at deep kind bytes ≡ Err fault
    → total ≡ Err fault
fault_step text rest bytes at depth n deep kind front fault total s e f g =
    let deep_is : depth_after depth (take n rest) ≡ deep = ap (depth_after depth) (sym e) ∙ sym f in
    let err : checked at deep kind (take n rest) ≡ Err fault = ap (checked at deep kind) (sym e) ∙ g in
    sym (one_step text rest at depth front (pieces.Token kind n) total s)
    ∙ ap (λ d. with_front front (checked at d kind (take n rest) >>= λ t. with_front (t ∷ []) (tokens_from (at + n) d 0 (drop n rest)))) deep_is
    ∙ ap (λ r. with_front front (r >>= λ t. with_front (t ∷ []) (tokens_from (at + n) deep 0 (drop n rest)))) err

pub all_read : (text : List ℕ) (at depth : ℕ) (front : List Token) (total : Result (List Token) LexFault) → length text ≤ at → with_front front (tokens_from at depth 0 (drop at text)) ≡ total → total ≡ Ok front
unfolding tokens_from
all_read text at depth front total le so_far =
    sym so_far ∙ ap (λ r. with_front front (tokens_from at depth 0 r)) (drop_all at text le) ∙ ap Ok (append-nil front)
