-- Fractions with the other sign.
use Rattle.prl_base.proofs.Standard.{◌≡◌, ◌<◌, ◌^◌, ℕ, ℤ, pos, negsuc, neg_ℤ, nat_abs, ◌-ℤ◌, zero, suc, refl, w64, ap, ◌∙◌, subst, sym, arith, IsGcd, to_z-of_z}
use mir.Val.{to_z, of_z, SFits}
use Rattle.prl_base.specs.Ratios.{Fraction, IsSmallFraction}
use Rattle.prl_base.proofs.Signs.{neg_fits, zero_sub}

pub neg_size : (z : ℤ) → nat_abs (neg_ℤ z) ≡ nat_abs z
neg_size (pos zero) = refl
neg_size (pos (suc n)) = refl
neg_size (negsuc n) = refl

pub neg-passed : (a : ℤ) → SFits w64 a → nat_abs a < 2 ^ 62 → to_z w64 (of_z w64 (pos 0 -ℤ to_z w64 (of_z w64 a))) ≡ neg_ℤ a
neg-passed a fits small =
    ap (λ n. to_z w64 (of_z w64 n)) (ap (λ n. pos 0 -ℤ n) (to_z-of_z w64 a fits) ∙ zero_sub a)
    ∙ to_z-of_z w64 (neg_ℤ a) (neg_fits a small)

pub small_negated : (f : Fraction) → SFits w64 f.num → IsSmallFraction f
    → IsSmallFraction (record { num = to_z w64 (of_z w64 (pos 0 -ℤ to_z w64 (of_z w64 f.num))); den = f.den })
small_negated f fits small =
    let e = neg-passed f.num fits (omega (arith, small.num)) in
    let size : nat_abs (to_z w64 (of_z w64 (pos 0 -ℤ to_z w64 (of_z w64 f.num)))) ≡ nat_abs f.num = ap nat_abs e ∙ neg_size f.num in
    record {
      positive = small.positive;
      reduced = let P : ℕ → Type 0 = λ n. IsGcd n f.den 1 in subst P (sym size) small.reduced;
      num = omega (arith, size, small.num);
      den = small.den;
    }
