-- Where a comment is closed, as a loop over the places finds it.
use Rattle.prl_base.proofs.Standard.{◌≡◌, ℕ, ◌+◌, ◌<◌, false, List, ◌∷◌, length, drop, get_or, Option, Some, None, refl, sym, ap, ◌∙◌, arith, drop_more, cond-false, option_map}
use Rattle.prl_lex.specs.Tokens.{begins, closing_len}

-- so much further
abbrev pub further : ℕ → Option ℕ → Option ℕ
further k o = option_map (λ n. n + k) o

further_again : (o : Option ℕ) (k : ℕ) → further k (option_map (λ n. n + 1) o) ≡ further (k + 1) o
further_again None k = refl
further_again (Some n) k = ap Some (omega arith)

cons_closing : (xs : List ℕ) (y : ℕ) (ys : List ℕ) → xs ≡ y ∷ ys → begins 42 41 xs ≡ false → closing_len xs ≡ option_map (λ n. n + 1) (closing_len ys)
cons_closing xs y ys e no_match = ap closing_len e ∙ cond-false (begins 42 41 (y ∷ ys)) (Some 2) _ (ap (begins 42 41) (sym e) ∙ no_match)

-- one place further, where no closing stands
pub closing_more : (text : List ℕ) (i : ℕ) → i < length text → begins 42 41 (drop i text) ≡ false → further i (closing_len (drop i text)) ≡ further (i + 1) (closing_len (drop (i + 1) text))
closing_more text i lt none =
    ap (further i) (cons_closing (drop i text) (get_or text i 0) (drop (i + 1) text) (drop_more text i 0 lt) none)
    ∙ further_again (closing_len (drop (i + 1) text)) i
