use Rattle.prl_base.proofs.Standard.{if◌then◌else◌, ◌≡◌, ◌==◌, ℕ, Bool, true, false, List, [], ◌∷◌, ◌++◌, length, refl, arith, eqb-true}
use Rattle.std.proofs.lemmas.List.{length-append}
-- Lists of which each element has a property, and lists that are put together.
pub use Rattle.prl_causal.proofs.Elements.{some_inner, head_same, tail_same, all_both, all_first, all_second, to_mapped, of_mapped, at_place}

pub no_first : {A : Type 0} (xs ys : List A) → xs ++ ys ≡ [] → xs ≡ []
no_first [] ys e = refl
no_first (x ∷ xs) ys e = absurd (cc)

pub no_second : {A : Type 0} (xs ys : List A) → xs ++ ys ≡ [] → ys ≡ []
no_second [] ys e = e
no_second (x ∷ xs) ys e = absurd (cc)

unless_true : {A : Type 0} (b : Bool) (a : A) → (if b then [] else (a ∷ [])) ≡ [] → b ≡ true
unless_true true a e = refl
unless_true false a e = absurd (cc)

-- no fault of two numbers where they are equal
pub equal_unless : (a b at : ℕ) → (if a == b then [] else (at ∷ [])) ≡ [] → a ≡ b
equal_unless a b at e = eqb-true a b (unless_true (a == b) at e)

pub lengths_append : {A B : Type 0} (xs ys : List A) (us vs : List B) → length xs ≡ length us → length ys ≡ length vs → length (xs ++ ys) ≡ length (us ++ vs)
lengths_append xs ys us vs a b = omega (arith, a, b, length-append xs ys, length-append us vs)
