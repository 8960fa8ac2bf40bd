-- Numbers of digits as `clap` reads them.
use Rattle.prl_base.proofs.Standard.{◌≡◌, ◌&&◌, ◌==◌, ◌-◌, ◌^◌, ℕ, true, false, List, [], ◌∷◌, drop, length, Some, None, nat_le, nat_lt, if◌then◌else◌, refl, ap, ◌∙◌, cond, arith, none-some}
use Rattle.prl_base.proofs.Standard.{digit_value, is_ascii_digit, list_all, digits_value, without_leading_plus}
use Rattle.std.proofs.Common.{le-ltb, lt-ltb, leb-true, ne_eqb}
use Rattle.clap.specs.ValueTests.{is_numeral, is_unsigned_in}
use Rattle.prl_base.specs.Decimals.{are_digits, decimal_of}
use Rattle.prl_arguments.proofs.Spelled.{and_left, and_right, the}

small : (d : ℕ) → is_ascii_digit d ≡ true → nat_lt (digit_value d) 10 ≡ true
small d e =
    let least = leb-true 48 d (and_left (nat_le 48 d) _ e) in
    let most = leb-true d 57 (and_right (nat_le 48 d) _ e) in
    let value : digit_value d ≡ d - 48 = rw (le-ltb d 48 least, lt-ltb d 58 (omega arith)) refl in
    ap (λ n. nat_lt n 10) value ∙ lt-ltb (d - 48) 10 (omega arith)

no_plus : (d : ℕ) → is_ascii_digit d ≡ true → (d == 43) ≡ false
no_plus d e =
    let least = leb-true 48 d (and_left (nat_le 48 d) _ e) in
    ne_eqb d 43 (λ is. omega (arith, is, least))

all_small : (ds : List ℕ) → list_all is_ascii_digit ds ≡ true → list_all (λ d. nat_lt (digit_value d) 10) ds ≡ true
all_small [] e = refl
all_small (d ∷ ds) e =
    ap (λ b. b && list_all (λ d. nat_lt (digit_value d) 10) ds) (small d (and_left (is_ascii_digit d) _ e))
    ∙ all_small ds (and_right (is_ascii_digit d) _ e)

numeral : (text : List ℕ) → are_digits text ≡ true → (without_leading_plus text ≡ text) × (is_numeral text ≡ true)
numeral [] e = cc
numeral (d ∷ ds) e =
    let first = and_left (is_ascii_digit d) _ e in (
      ap (λ b. drop (cond b 1 0) (d ∷ ds)) (no_plus d first),
      ap (λ b. b && list_all (λ d. nat_lt (digit_value d) 10) (d ∷ ds)) (lt-ltb 0 (length (d ∷ ds)) (omega arith)) ∙ all_small (d ∷ ds) e,
    )

-- a number of digits is in the range of `clap` where it is not below the least and not above the most
pub in_range : (text : List ℕ) (n least most : ℕ) → decimal_of text ≡ Some n → is_unsigned_in least most text ≡ (nat_le least n && nat_le n most)
in_range text n least most e =
    let value = digits_value 10 text in
    elim (are_digits text && nat_lt value (2 ^ 64)) as (λ b. (are_digits text && nat_lt value (2 ^ 64)) ≡ b → (if b then Some value else None) ≡ Some n
    → is_unsigned_in least most text ≡ (nat_le least n && nat_le n most)) [
      | true ↦ λ is h.
          let digits = numeral text (and_left (are_digits text) _ is) in
          let fits = and_right (are_digits text) _ is in
          ap (λ t. is_numeral t && (nat_lt (digits_value 10 t) (2 ^ 64) && (nat_le least (digits_value 10 t) && nat_le (digits_value 10 t) most))) digits.0
          ∙ ap (λ b. b && (nat_lt value (2 ^ 64) && (nat_le least value && nat_le value most))) digits.1
          ∙ ap (λ b. b && (nat_le least value && nat_le value most)) fits
          ∙ ap (λ v. nat_le least v && nat_le v most) (the value n h)
      | false ↦ λ is h. absurd (none-some n h)
    ] refl e
