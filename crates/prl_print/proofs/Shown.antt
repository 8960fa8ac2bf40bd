-- Parts are printed as the trees that they are seen as.
use Rattle.prl_base.proofs.Standard.{◌≡◌, ℕ, List, map, flat_map-map, flat_map}

pub trees_printed : {A B : Type 0} (f : B → List ℕ) (g : A → B) (xs : List A) → flat_map f (map g xs) ≡ flat_map (λ x. f (g x)) xs
trees_printed f g xs = flat_map-map f g xs
