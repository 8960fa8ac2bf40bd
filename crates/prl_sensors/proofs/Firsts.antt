-- The first of some names.
use Rattle.prl_base.proofs.Standard.{◌≡◌, ℕ, List, [], ◌∷◌, Some, refl, slice_get, bytes_eq-Decides}
use Rattle.prl_names.specs.Lookups.{index_of}

pub some_is : {A : Type 0} (x y : A) → Some x ≡ Some y → x ≡ y
some_is x y e = cc

-- the name at 0 stands nowhere before it
pub first_at_start : (names : List (List ℕ)) (name : List ℕ) → slice_get names 0 ≡ Some name → index_of names name ≡ Some 0
first_at_start [] name e = cc
first_at_start (n ∷ names) name e = rw ((bytes_eq-Decides n name).1 (some_is n name e)) refl
