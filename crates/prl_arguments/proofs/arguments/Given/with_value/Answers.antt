use Rattle.std.proofs.Common.{◌≡◌, ℕ, Bool, true, false, length, map, List, Option, Some, None, get_or, if◌then◌else◌, refl, sym, ap, ◌∙◌, arith, slice_set}
use Rattle.std.proofs.Math.Path.{fun_ext}
use Rattle.std.proofs.lemmas.List.{get_or-set_other, get_or-set_same, length-map}
use denote.Ref.{Bor}
use Rattle.prl_arguments.specs.Vocabulary.{Setting, all_settings, is_same, with_value, bytes_of, given_by, place_of}
use Rattle.prl_arguments.proofs.Names.{inside, same_is, same_place}
use Rattle.prl_arguments.proofs.arguments.Given.with_value.Goals as goal

length_is : {A B : Type 0} (f : A → B) (xs : List A) (n : ℕ) → length (map f xs) ≡ n → length xs ≡ n
length_is f xs n e = sym (length-map xs f) ∙ e

no_truth : (b : Bool) → b ≡ true → b ≡ false → ⊥
no_truth b e f = cc

one_more : (values : List (Option (Bor (List ℕ)))) (s t : Setting) (v : Bor (List ℕ)) → length values ≡ length all_settings
    → bytes_of (get_or (slice_set values (place_of s) (Some v)) (place_of t) None) ≡ (if is_same s t then Some v.now else bytes_of (get_or values (place_of t) None))
one_more values s t v len =
    let set = slice_set values (place_of s) (Some v) in
    elim (is_same s t) as (λ b. is_same s t ≡ b → bytes_of (get_or set (place_of t) None) ≡ (if b then Some v.now else bytes_of (get_or values (place_of t) None))) [
      | true ↦ λ same.
          let below = inside s in
          ap (λ u. bytes_of (get_or set (place_of u) None)) (sym (same_is s t same)) ∙ ap bytes_of (get_or-set_same values (place_of s) (Some v) None (omega (arith, below, len)))
      | false ↦ λ other. ap bytes_of (get_or-set_other values (place_of s) (place_of t) (Some v) None (λ e. no_truth (is_same s t) (same_place s t e) other))
    ] refl

pub returns : goal.returns
returns c =
    let values = c.args.self.values in
    let value = c.args.value in
    let more : (n : ℕ) → n ≡ place_of c.args.setting → given_by (record { values = slice_set values n (Some value) }) ≡ with_value (given_by c.args.self) c.args.setting value.now = λ n e.
    ap (λ n. given_by (record { values = slice_set values n (Some value) })) e ∙ fun_ext (λ t. one_more values c.args.setting t value (search length_is)) in
    more c.place_of.result c.place_of.ensures
