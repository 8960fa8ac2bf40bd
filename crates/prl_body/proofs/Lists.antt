-- Lists that are built one element after another, and may fail.
use Rattle.prl_base.proofs.Standard.{◌≡◌, ◌<◌, ◌+◌, ℕ, suc, List, [], ◌∷◌, ◌++◌, length, get_or, drop, drop-cons, add-one, map, refl, sym, ap, ◌∙◌, append_assoc, Result, Ok, Err}
use Rattle.prl_base.proofs.Standard.{append-nil, map-append}
use Rattle.prl_base.specs.Reading.{◌>>=◌}
use Rattle.prl_body.specs.declared.faults.BodyFault.{BodyFault}

-- what is left of a list, by its next element
pub next_of : {A : Type 0} (xs : List A) (k : ℕ) (x : A) → k < length xs → x ≡ get_or xs k x → drop k xs ≡ x ∷ drop (k + 1) xs
next_of {A} xs k x below is = rw add-one (drop-cons xs k x below ∙ ap (λ (y : A). y ∷ drop (suc k) xs) (sym is))

-- a list, if there is one, after another list
abbrev pub added_to : {A : Type 0} → List A → Result (List A) BodyFault → Result (List A) BodyFault
added_to front (Ok xs) = Ok (front ++ xs)
added_to front (Err e) = Err e

pub added_to_push : {A : Type 0} (front : List A) (x : A) (r : Result (List A) BodyFault) →
    added_to (front ++ x ∷ []) r ≡ added_to front (r >>= λ xs. Ok (x ∷ xs))
added_to_push front x (Ok xs) = ap (λ l. Ok l) (append_assoc front (x ∷ []) xs)
added_to_push front x (Err e) = refl

-- one more element, where the first of those that are left gives it
pub added_step : {A B : Type 0} (view : A → B) (done : List A) (x : A) (left later whole : Result (List B) BodyFault) →
    left ≡ (later >>= λ ys. Ok (view x ∷ ys)) → added_to (map view done) left ≡ whole → added_to (map view (done ++ x ∷ [])) later ≡ whole
added_step view done x left later whole is before =
    rw map-append (added_to_push (map view done) (view x) later ∙ sym (ap (added_to (map view done)) is) ∙ before)

-- the first of those that are left fails
pub added_fails : {A : Type 0} (front : List A) (left whole : Result (List A) BodyFault) (e : BodyFault) → left ≡ Err e → added_to front left ≡ whole → whole ≡ Err e
added_fails front left whole e is before = sym before ∙ ap (added_to front) is

-- none is left
pub added_ends : {A : Type 0} (front : List A) (left whole : Result (List A) BodyFault) → left ≡ Ok [] → added_to front left ≡ whole → whole ≡ Ok front
added_ends front left whole is before = sym before ∙ ap (added_to front) is ∙ ap (λ l. Ok l) (append-nil front)
