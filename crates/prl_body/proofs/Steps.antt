-- Lists that a loop fills, element by element, with the values of a function.
use Rattle.std.proofs.Common.{◌≡◌, ◌<◌, ℕ, zero, suc, List, [], ◌∷◌, ◌++◌, length, take, map, set, get_or, sym, ap, arith}

pub take_set_map : {A B C : Type 0} (g : B → C) (h : A → B) (xs : List A) (k : ℕ) (a : A) (ys : List C) →
    k < length xs → length ys ≡ length xs → a ≡ get_or xs k a → take k ys ≡ take k (map g (map h xs)) →
    take (suc k) (set ys k (g (h a))) ≡ take (suc k) (map g (map h xs))
take_set_map g h [] k a ys below same item before = absurd (omega arith)
take_set_map g h (x ∷ xs) k a [] below same item before = absurd (omega (arith, same))
take_set_map g h (x ∷ xs) zero a (y ∷ ys) below same item before = ap (λ z. g (h z) ∷ []) item
take_set_map g h (x ∷ xs) (suc k) a (y ∷ ys) below same item before =
    let head : y ≡ g (h x) = cc in
    let tail : take k ys ≡ take k (map g (map h xs)) = cc in
    let rest = take_set_map g h xs k a ys (omega arith) (omega (arith, same)) item tail in
    cc

pub take_map_next : {A B : Type 0} (f : A → B) (xs : List A) (k : ℕ) (a : A) →
    k < length xs → a ≡ get_or xs k a → take (suc k) (map f xs) ≡ take k (map f xs) ++ f a ∷ []
take_map_next f [] k a below item = absurd (omega arith)
take_map_next f (x ∷ xs) zero a below item = ap (λ z. f z ∷ []) (sym item)
take_map_next f (x ∷ xs) (suc k) a below item = ap (λ l. f x ∷ l) (take_map_next f xs k a (omega arith) item)
