-- A number that is read digit by digit.
use Rattle.prl_base.proofs.Standard.{◌≡◌, ℕ, ◌+◌, ◌*◌, ◌^◌, ◌<◌, ◌≤◌, ltb, List, [], ◌∷◌, length, drop, get_or, Some, None, inl, inr, sym, ap, ◌∙◌, arith, drop_more, drop_all, cases_lt, cond-true}
use Rattle.prl_base.proofs.Standard.{cond-false, le-ltb, lt-ltb, digit_value, digits_value_after}
use Rattle.prl_lex.specs.Digits.{in_64_bits}

-- more digits make no number less
grows : (n : ℕ) (ds : List ℕ) → n ≤ digits_value_after 10 n ds
grows n [] = omega arith
grows n (d ∷ ds) = omega (arith, grows (n * 10 + digit_value d) ds)

pub digits_more : (n : ℕ) (ds : List ℕ) (i : ℕ) → i < length ds → digits_value_after 10 n (drop i ds) ≡ digits_value_after 10 (n * 10 + digit_value (get_or ds i 0)) (drop (i + 1) ds)
digits_more n ds i lt = ap (digits_value_after 10 n) (drop_more ds i 0 lt)

-- all digits are read
pub whole : (n v : ℕ) (ds : List ℕ) (i : ℕ) → length ds ≤ i → digits_value_after 10 n (drop i ds) ≡ v → n < 2 ^ 64 → Some n ≡ in_64_bits v
whole n v ds i le e fits =
    let same : n ≡ v = ap (digits_value_after 10 n) (sym (drop_all i ds le)) ∙ e in
    sym (cond-true (ltb n (2 ^ 64)) (Some n) None (lt-ltb n (2 ^ 64) fits)) ∙ ap in_64_bits same

too_many : (m v : ℕ) → m ≤ v → in_64_bits m ≡ None → in_64_bits v ≡ None
too_many m v le e = elim (cases_lt m (2 ^ 64)) [
  | inl lt ↦ absurd (some≢none (sym (cond-true (ltb m (2 ^ 64)) (Some m) None (lt-ltb m (2 ^ 64) lt)) ∙ e))
  | inr ge ↦ cond-false (ltb v (2 ^ 64)) (Some v) None (le-ltb v (2 ^ 64) (omega arith))
]
  where
    some≢none : Some m ≡ None → ⊥
    some≢none h = cc

-- one digit more is one too many
pub past : (n v : ℕ) (ds : List ℕ) (i : ℕ) → i < length ds → digits_value_after 10 n (drop i ds) ≡ v → in_64_bits (n * 10 + digit_value (get_or ds i 0)) ≡ None → in_64_bits v ≡ None
past n v ds i lt e none =
    let m : ℕ = n * 10 + digit_value (get_or ds i 0) in
    too_many m v (omega (arith, grows m (drop (i + 1) ds), digits_more n ds i lt)) none
