-- One more of the numbers of a range.
use Rattle.prl_base.proofs.Standard.{◌≡◌, ◌+◌, ◌-◌, ◌<◌, ◌++◌, ◌∙◌, ℕ, suc, List, [], ◌∷◌, map, refl, ap, sym, append_assoc, arith, flat_map, range_with_len}

-- the first of a range, and the others
first_of : (n last : ℕ) → n < last → range_with_len n (last - n) ≡ n ∷ range_with_len (n + 1) (last - (n + 1))
first_of n last h = (let e : last - n ≡ suc (last - (n + 1)) = omega arith in rw e refl)

-- what is made of each number, one more of which is done
pub mapped : {A : Type 0} (f : ℕ → A) (so_far next all : List A) (x : A) (n last : ℕ) → n < last → x ≡ f n → next ≡ so_far ++ x ∷ []
    → so_far ++ map f (range_with_len n (last - n)) ≡ all → next ++ map f (range_with_len (n + 1) (last - (n + 1))) ≡ all
mapped f so_far next all x n last h is e inv =
    ap (λ ys. ys ++ map f (range_with_len (n + 1) (last - (n + 1)))) (e ∙ ap (λ y. so_far ++ y ∷ []) is)
    ∙ append_assoc so_far (f n ∷ []) (map f (range_with_len (n + 1) (last - (n + 1))))
    ∙ ap (λ ns. so_far ++ map f ns) (sym (first_of n last h)) ∙ inv

-- the same where lists are made, which follow one another
pub flattened : {A : Type 0} (f : ℕ → List A) (so_far next all : List A) (n last : ℕ) → n < last → next ≡ so_far ++ f n
    → so_far ++ flat_map f (range_with_len n (last - n)) ≡ all → next ++ flat_map f (range_with_len (n + 1) (last - (n + 1))) ≡ all
flattened f so_far next all n last h e inv =
    ap (λ ys. ys ++ flat_map f (range_with_len (n + 1) (last - (n + 1)))) e
    ∙ append_assoc so_far (f n) (flat_map f (range_with_len (n + 1) (last - (n + 1))))
    ∙ ap (λ ns. so_far ++ flat_map f ns) (sym (first_of n last h)) ∙ inv
