-- Options are told by their names, and each is among all of them.
use Rattle.prl_base.proofs.Standard.{◌≡◌, ◌<◌, ℕ, Bool, true, false, List, [], ◌∷◌, Option, Some, find, get_or, length, if◌then◌else◌, nat_lt, refl, sym, ap, subst, ◌∙◌, list_all, bytes_eq, ltb-true}
use Rattle.prl_base.proofs.Standard.{bytes_eq-Decides}
use Rattle.prl_arguments.specs.Vocabulary.{Setting, all_settings, is_same, name_of, place_of}
use Rattle.prl_arguments.specs.declared.arguments.Setting.TheVariants as settings
use Rattle.prl_arguments.proofs.Spelled.{and_left, and_right, the}

setting_named : List ℕ → Option Setting
setting_named name = find (λ s. bytes_eq (name_of s) name) all_settings

named_back : (s : Setting) → setting_named (name_of s) ≡ Some s
unfolding setting_named
named_back settings.Program = refl
named_back _ = refl

pub same_is : (s t : Setting) → is_same s t ≡ true → s ≡ t
same_is s t e = the s t (sym (named_back s) ∙ ap setting_named ((bytes_eq-Decides (name_of s) (name_of t)).0 e) ∙ named_back t)

pub same_self : (s : Setting) → is_same s s ≡ true
same_self s = (bytes_eq-Decides (name_of s) (name_of s)).1 refl

-- tests of all options
found_passes : (q p : Setting → Bool) (xs : List Setting) (s : Setting) → find q xs ≡ Some s → list_all p xs ≡ true → p s ≡ true
found_passes q p [] s e all = cc
found_passes q p (x ∷ xs) s e all =
    elim (q x) as (λ b. (if b then Some x else find q xs) ≡ Some s → p s ≡ true) [
      | true ↦ λ e. subst (λ t. p t ≡ true) (the x s e) (and_left (p x) _ all)
      | false ↦ λ e. found_passes q p xs s e (and_right (p x) _ all)
    ] e

pub all_at : (p : Setting → Bool) → list_all p all_settings ≡ true → (s : Setting) → p s ≡ true
unfolding setting_named
all_at p all s = found_passes (λ t. bytes_eq (name_of t) (name_of s)) p all_settings s (named_back s) all

-- where an option stands
place_is : (s : Setting) → nat_lt (place_of s) (length all_settings) ≡ true
place_is settings.Program = refl
place_is _ = refl

pub inside : (s : Setting) → place_of s < length all_settings
inside s = ltb-true (place_of s) (length all_settings) (place_is s)

stands : (s : Setting) → get_or all_settings (place_of s) settings.Program ≡ s
stands settings.Program = refl
stands _ = refl

pub same_place : (s t : Setting) → place_of t ≡ place_of s → is_same s t ≡ true
same_place s t e =
    subst (λ (u : Setting). is_same s u ≡ true) (sym (stands s) ∙ ap (λ n. get_or all_settings n settings.Program) (sym e) ∙ stands t) (same_self s)
