-- A list that a loop fills with the values of a function.
use Rattle.std.proofs.Common.{◌≡◌, ◌<◌, ℕ, zero, suc, List, [], ◌∷◌, length, take, map, set, get_or, ap, arith}

pub take_set_one : {A C : Type 0} (f : A → C) (xs : List A) (k : ℕ) (a d : A) (ys : List C) →
    k < length xs → length ys ≡ length xs → a ≡ get_or xs k d → take k ys ≡ take k (map f xs) →
    take (suc k) (set ys k (f a)) ≡ take (suc k) (map f xs)
take_set_one f [] k a d ys below same item before = absurd (omega (arith, below))
take_set_one f (x ∷ xs) k a d [] below same item before = absurd (omega (arith, same))
take_set_one f (x ∷ xs) zero a d (y ∷ ys) below same item before = ap (λ z. f z ∷ []) item
take_set_one f (x ∷ xs) (suc k) a d (y ∷ ys) below same item before =
    let head : y ≡ f x = cc in
    let tail : take k ys ≡ take k (map f xs) = cc in
    let rest = take_set_one f xs k a d ys (omega (arith, below)) (omega (arith, same)) item tail in
    cc
