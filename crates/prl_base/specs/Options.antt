-- Options: steps one after another, each of which may give nothing.
use Rattle.std.specs.Prelude.{List, [], ◌∷◌, Option, Some, None}

-- one step after another: where one gives nothing, all do
infixl 10 ◌>>=◌
abbrev pub ◌>>=◌ : {A B : Type 0} → Option A → (A → Option B) → Option B
None >>= f = None
(Some x) >>= f = f x

-- the item of a list of one
abbrev pub the_one : {A : Type 0} → List A → Option A
the_one [] = None
the_one (x ∷ []) = Some x
the_one (x ∷ y ∷ rest) = None
