-- What the quotient is in 64 bits.
use Rattle.prl_base.proofs.Standard.{◌≡◌, ◌≢◌, ◌/◌, ◌%◌, ◌^◌, ◌≤◌, ℕ, zero, suc, ℤ, pos, negsuc, neg_ℤ, FitsSigned, w64, to_z, of_z, refl, sym, ◌∙◌, arith, div-le_self, int_div, int_wrap}
use Rattle.prl_base.proofs.Standard.{int_wrapping_div, to_z-of_z, int_wrap_fits}
use Rattle.prl_base.specs.BodyOperators.{quotient}

-- a number from 0 to 2^63, in 64 bits
wrapped_positive : (n : ℕ) → n ≤ 2 ^ 63 → to_z w64 (of_z w64 (pos n)) ≡ int_wrap w64 (pos n)
unfolding int_wrap
wrapped_positive n small =
    let same : n % 2 ^ 64 ≡ n = omega arith in
    rw same refl

-- a number from -2^63 to 0, in 64 bits
wrapped_negative : (n : ℕ) → n ≤ 2 ^ 63 → to_z w64 (of_z w64 (neg_ℤ (pos n))) ≡ int_wrap w64 (neg_ℤ (pos n))
wrapped_negative zero small = wrapped_positive 0 small
wrapped_negative (suc n) small =
    let fits : FitsSigned w64 (negsuc n) = record { sfits = omega arith } in
    to_z-of_z w64 (negsuc n) fits ∙ sym (int_wrap_fits w64 (negsuc n) fits)

quotient_small : (n d : ℕ) → n ≤ 2 ^ 63 → n / d ≤ 2 ^ 63
quotient_small n d small = omega (arith, div-le_self n d)

wrapping_quotient : (a b : ℤ) → FitsSigned w64 a → int_wrapping_div w64 a b ≡ int_wrap w64 (int_div a b)
wrapping_quotient (pos a) (pos b) fits = wrapped_positive (a / b) (quotient_small a b (omega (arith, fits.sfits)))
wrapping_quotient (pos a) (negsuc b) fits = wrapped_negative (a / suc b) (quotient_small a (suc b) (omega (arith, fits.sfits)))
wrapping_quotient (negsuc a) (pos b) fits = wrapped_negative (suc a / b) (quotient_small (suc a) b (omega (arith, fits.sfits)))
wrapping_quotient (negsuc a) (negsuc b) fits = wrapped_positive (suc a / suc b) (quotient_small (suc a) (suc b) (omega (arith, fits.sfits)))

-- the quotient by a number other than 0
pub quotient_nonzero : (a b : ℤ) → FitsSigned w64 a → b ≢ pos 0 → int_wrapping_div w64 a b ≡ quotient a b
quotient_nonzero a (pos zero) fits nonzero = absurd (nonzero refl)
quotient_nonzero a (pos (suc b)) fits nonzero = wrapping_quotient a (pos (suc b)) fits
quotient_nonzero a (negsuc b) fits nonzero = wrapping_quotient a (negsuc b) fits
