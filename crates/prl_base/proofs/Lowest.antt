-- Lowest terms: there are some, and no others.
use Prim.Native.Nat.{◌∣◌}
use Rattle.std.proofs.Common.{◌≡◌, ◌≢◌, ◌⊎◌, inl, inr, Result, Ok, Err, ◌*◌, ◌/◌, ◌<◌, ◌≤◌, ℕ, ℤ, pos, negsuc, neg_ℤ, nat_abs, ◌*ℤ◌, Bool, true, false, zero, suc, refl, sym, ap, ◌∙◌, subst, arith, rules}
use Rattle.std.proofs.Math.Nat.{mul_right_comm, mul_assoc, zero-mul, one-mul, one-dvd, dvd-mul_left, div-mul_cancel, mul-dvd-mul_right, dvd_of_mul-dvd-mul_right, eq_of_mul-eq-mul_right}
use Rattle.std.specs.Int.{IsGcd}
use Rattle.std.specs.Int.Signed.{lt_z}
use Rattle.std.proofs.lemmas.Nat.Gcd.{dvd_antisymm}
use Rattle.std.proofs.lemmas.Int.{unsigned_abs-mul}
use Rattle.prl_base.proofs.Coprime.{quotients_coprime}
use Rattle.prl_base.specs.Vocabulary.{Fraction, IsSmallFraction, MAX_PART, IsReducedForm, IsReduction, IsPast, signed, Past}
use Rattle.prl_base.proofs.Coprime.{divides_other}
use Rattle.prl_base.proofs.Signs.{cancel, nat_abs_signed, neg_mul, mul_neg, neg_injective}

-- two fractions that equal top / bottom, by their sizes
crosswise : (a b c d top bottom : ℕ) → 0 < bottom → a * bottom ≡ top * b → c * bottom ≡ top * d → a * d ≡ c * b
crosswise a b c d top bottom some first second =
    eq_of_mul-eq-mul_right bottom some (a * d) (c * b)
    (mul_right_comm a d bottom ∙ ap (λ n. n * d) first ∙ mul_right_comm top b d ∙ ap (λ n. n * b) (sym second) ∙ mul_right_comm c bottom b)

divides : (a b c d : ℕ) → IsGcd a b 1 → a * d ≡ c * b → b ∣ d
divides a b c d reduced cross =
    divides_other a b d reduced (let P : ℕ → Type 0 = λ n. b ∣ n in subst P (sym cross) (dvd-mul_left b c))

sizes : {top bottom : ℤ} {f : Fraction} → IsReducedForm top bottom f → nat_abs f.num * nat_abs bottom ≡ nat_abs top * f.den
sizes {top = top} {bottom = bottom} {f = f} form =
    sym (unsigned_abs-mul f.num bottom) ∙ ap nat_abs form.equal ∙ unsigned_abs-mul top (pos f.den)

pub size_positive : (z : ℤ) → z ≢ pos 0 → 0 < nat_abs z
size_positive (pos zero) nonzero = absurd (nonzero refl)
size_positive (pos (suc n)) nonzero = omega arith
size_positive (negsuc n) nonzero = omega arith

fraction_same : (f g : Fraction) → f.num ≡ g.num → f.den ≡ g.den → f ≡ g
fraction_same f g nums dens = λ i. record { num = nums i; den = dens i }

pub lowest_only : (top bottom : ℤ) (f g : Fraction) → bottom ≢ pos 0 → IsReducedForm top bottom f → IsReducedForm top bottom g
    → f ≡ g
lowest_only top bottom f g nonzero left right =
    let cross : nat_abs f.num * g.den ≡ nat_abs g.num * f.den =
    crosswise (nat_abs f.num) f.den (nat_abs g.num) g.den (nat_abs top) (nat_abs bottom) (size_positive bottom nonzero) (sizes left) (sizes right) in
    let dens : f.den ≡ g.den =
    dvd_antisymm (divides (nat_abs f.num) f.den (nat_abs g.num) g.den left.reduced cross)
    (divides (nat_abs g.num) g.den (nat_abs f.num) f.den right.reduced (sym cross)) in
    fraction_same f g
    (cancel f.num g.num bottom nonzero (left.equal ∙ ap (λ d. top *ℤ pos d) dens ∙ sym right.equal)) dens

-- the greatest common divisor of a number that is not 0 is not 0
pub divisor_positive : (size den g : ℕ) → 1 ≤ den → IsGcd size den g → 0 < g
divisor_positive size den zero positive gcd =
    let e : den / 0 * 0 ≡ den = div-mul_cancel 0 gcd.1 in absurd (omega arith)
divisor_positive size den (suc g) positive gcd = omega arith

products : (size den g : ℕ) → g ∣ size → g ∣ den → size / g * den ≡ size * (den / g)
products size den g p q =
    ap (λ n. size / g * n) (sym (div-mul_cancel g q)) ∙ sym (mul_assoc (size / g) (den / g) g) ∙ mul_right_comm (size / g) (den / g) g
    ∙ ap (λ n. n * (den / g)) (div-mul_cancel g p)

signed_equal : (negative : Bool) (size den g : ℕ) → g ∣ size → g ∣ den
    → signed negative (size / g) *ℤ pos den ≡ signed negative size *ℤ pos (den / g)
signed_equal false size den g p q = ap pos (products size den g p q)
signed_equal true size den g p q =
    neg_mul (pos (size / g)) (pos den) ∙ ap (λ n. neg_ℤ (pos n)) (products size den g p q) ∙ sym (neg_mul (pos size) (pos (den / g)))

factor_positive : (factor other whole : ℕ) → factor * other ≡ whole → 1 ≤ whole → 1 ≤ factor
factor_positive zero other whole is positive =
    let none : 0 ≡ whole = sym (zero-mul other) ∙ is in omega arith
factor_positive (suc factor) other whole is positive = omega arith

pub lowest_form : (num : ℤ) (negative : Bool) (size den g : ℕ) → num ≡ signed negative size → 1 ≤ den → IsGcd size den g
    → IsReducedForm num (pos den) (record { num = signed negative (size / g); den = den / g })
lowest_form num negative size den g is positive gcd =
    let some : 0 < g = divisor_positive size den g positive gcd in
    record {
      positive = factor_positive (den / g) g den (div-mul_cancel g gcd.1) positive;
      reduced = rw (nat_abs_signed negative (size / g)) (quotients_coprime size den g some gcd);
      equal = rw is (signed_equal negative size den g gcd.0 gcd.1);
    }

-- top and bottom with the other sign each
pub lowest_flipped : (top bottom : ℤ) (f : Fraction) → IsReducedForm (neg_ℤ top) (neg_ℤ bottom) f → IsReducedForm top bottom f
lowest_flipped top bottom f form =
    record {
      positive = form.positive;
      reduced = form.reduced;
      equal =
          neg_injective (f.num *ℤ bottom) (top *ℤ pos f.den)
          (sym (mul_neg f.num bottom) ∙ form.equal ∙ neg_mul top (pos f.den));
    }

-- num / den in lowest terms, by the greatest common divisor
abbrev pub lowest : ℤ → ℕ → ℕ → Fraction
lowest num den g = record { num = signed (lt_z num (pos 0)) (nat_abs num / g); den = den / g }

signed_nat_abs : (z : ℤ) → z ≡ signed (lt_z z (pos 0)) (nat_abs z)
signed_nat_abs (pos n) = search rules
signed_nat_abs (negsuc n) = refl

pub lowest_is : (num : ℤ) (den g : ℕ) → 1 ≤ den → IsGcd (nat_abs num) den g → IsReducedForm num (pos den) (lowest num den g)
lowest_is num den g positive gcd =
    lowest_form num (lt_z num (pos 0)) (nat_abs num) den g (signed_nat_abs num) positive gcd

-- the parts fit
pub lowest_small : (num : ℤ) (den g : ℕ) → 1 ≤ den → IsGcd (nat_abs num) den g → nat_abs num / g ≤ MAX_PART → den / g ≤ MAX_PART
    → IsSmallFraction (lowest num den g)
lowest_small num den g positive gcd top bottom =
    let form : IsReducedForm num (pos den) (lowest num den g) = lowest_is num den g positive gcd in
    record {
      positive = form.positive;
      reduced = form.reduced;
      num = rw (nat_abs_signed (lt_z num (pos 0)) (nat_abs num / g)) top;
      den = bottom;
    }

-- a part does not fit
pub lowest_past : (num : ℤ) (den g : ℕ) → 1 ≤ den → IsGcd (nat_abs num) den g → (MAX_PART < nat_abs num / g) ⊎ (MAX_PART < den / g)
    → (f : Fraction) × (IsReducedForm num (pos den) f × IsPast f)
lowest_past num den g positive gcd (inl top) =
    (lowest num den g, (lowest_is num den g positive gcd, inl (rw (nat_abs_signed (lt_z num (pos 0)) (nat_abs num / g)) top)))
lowest_past num den g positive gcd (inr bottom) =
    (lowest num den g, (lowest_is num den g positive gcd, inr bottom))

pub reduction_flipped : (top bottom : ℤ) (result : Result Fraction Past) → IsReduction (neg_ℤ top) (neg_ℤ bottom) result
    → IsReduction top bottom result
reduction_flipped top bottom (Ok f) (form, small) = (lowest_flipped top bottom f form, small)
reduction_flipped top bottom (Err past) (f, (form, is_past)) = (f, (lowest_flipped top bottom f form, is_past))
