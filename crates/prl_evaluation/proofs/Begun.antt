-- Lists that are made one after another.
use Rattle.prl_base.proofs.Standard.{◌≡◌, ◌+◌, ◌<◌, ℕ, zero, suc, List, [], ◌∷◌, ◌++◌, length, Some, slice_get, slice_index_or, sym, ◌∙◌, subst, same_Some, slice_get_within, arith}
use Rattle.std.proofs.lemmas.Grind.{common_steps}
use Rattle.prl_body.specs.declared.bodies.CheckedBody.{CheckedBody}
use Rattle.prl_flow.specs.declared.programs.App.{App}
use Rattle.prl_flow.proofs.Lists.{slice_get_append_left}
use Rattle.prl_evaluation.specs.Vocabulary.{IsNew, Run}

-- what holds of each holds with one more
pub last_too : {A : Type 0} (P : ℕ → A → Type 0) (xs : List A) (x : A) → ((b : ℕ) (y : A) → slice_get xs b ≡ Some y → P b y) → P (length xs) x
    → (b : ℕ) (y : A) → slice_get (xs ++ x ∷ []) b ≡ Some y → P b y
last_too P [] x each last zero y at = subst (P 0) (same_Some x y at) last
last_too P [] x each last (suc b) y at = absurd (cc)
last_too P (z ∷ xs) x each last zero y at = each 0 y at
last_too P (z ∷ xs) x each last (suc b) y at = last_too (λ c. P (suc c)) xs x (λ c. each (suc c)) last b y at

pub new_pushed : (bodies : List CheckedBody) (apps : List App) (runs : List Run) (own : App) (run : Run) → slice_get apps (length runs) ≡ Some own → IsNew bodies own run
    → ((k : ℕ) (app : App) (r : Run) → slice_get apps k ≡ Some app → slice_get runs k ≡ Some r → IsNew bodies app r)
    → (k : ℕ) (app : App) (r : Run) → slice_get apps k ≡ Some app → slice_get (runs ++ run ∷ []) k ≡ Some r → IsNew bodies app r
new_pushed bodies apps runs own run own_found is old k app r found there =
    last_too (λ (j : ℕ) (s : Run). (a : App) → slice_get apps j ≡ Some a → IsNew bodies a s) runs run (λ j s at a applied. old j a s applied at)
    (λ a applied. subst (λ (u : App). IsNew bodies u run) (same_Some own a (sym own_found ∙ applied)) is) k r there app found

pub first_too : {A : Type 0} (xs ys : List A) (b : ℕ) (y : A) → slice_get xs b ≡ Some y → slice_get (xs ++ ys) b ≡ Some y
first_too xs ys b y at = slice_get_append_left xs ys b (slice_get_within xs b y at) ∙ at

pub one_more : {A : Type 0} (f : ℕ → A) (d : A) (xs : List A) (x : A) (n : ℕ) → length xs ≡ n → ((m : ℕ) → m < n → slice_index_or xs m d ≡ f m) → x ≡ f n
    → (m : ℕ) → m < n + 1 → slice_index_or (xs ++ x ∷ []) m d ≡ f m
one_more f d xs x n size each last m less = grind (arith, common_steps)
