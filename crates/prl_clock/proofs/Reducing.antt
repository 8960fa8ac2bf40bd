-- Fractions of a sign and a size in lowest terms, and the sum whose sign is found by parts.
use Rattle.prl_base.proofs.Standard.{◌≡◌, ◌⊎◌, inl, inr, ◌+◌, ◌-◌, ◌*◌, ◌/◌, ◌<◌, ◌≤◌, ℕ, ℤ, pos, neg_ℤ, nat_abs, ◌+ℤ◌, ◌*ℤ◌, Bool, true, false, refl, sym, ap, ◌∙◌, subst, arith, IsGcd, mul-pos}
use borrow.Author.Differences.{up, down, same_in, product_is, sum_is_lem, ints}
use Rattle.prl_base.specs.Vocabulary.{Fraction, IsSmallFraction, IsReducedForm, IsPast, signed}
use Rattle.prl_base.specs.declared.ratios.TheConstants.{MAX_PART}
use Rattle.prl_base.proofs.Lowest.{lowest_form}
use Rattle.prl_base.proofs.Signs.{nat_abs_signed}

pub reduced_past : (negative : Bool) (size den g : ℕ) → 1 ≤ den → IsGcd size den g → (MAX_PART < size / g) ⊎ (MAX_PART < den / g)
    → (f : Fraction) × (IsReducedForm (signed negative size) (pos den) f × IsPast f)
reduced_past negative size den g positive gcd (inl top) = (
  record { num = signed negative (size / g); den = den / g },
  (lowest_form (signed negative size) negative size den g refl positive gcd, inl (rw (nat_abs_signed negative (size / g)) top)),
)
reduced_past negative size den g positive gcd (inr bottom) = (
  record { num = signed negative (size / g); den = den / g },
  (lowest_form (signed negative size) negative size den g refl positive gcd, inr bottom),
)

pub reduced_form : (negative : Bool) (size den g : ℕ) (num : ℤ) → 1 ≤ den → IsGcd size den g → num ≡ signed negative (size / g)
    → IsReducedForm (signed negative size) (pos den) (record { num = num; den = den / g })
reduced_form negative size den g num positive gcd is =
    let P : ℤ → Type 0 = λ n. IsReducedForm (signed negative size) (pos den) (record { num = n; den = den / g }) in
    subst P (sym is) (lowest_form (signed negative size) negative size den g refl positive gcd)

pub reduced_small : (negative : Bool) (size den g : ℕ) (num : ℤ) → 1 ≤ den → IsGcd size den g → num ≡ signed negative (size / g)
    → size / g ≤ MAX_PART → den / g ≤ MAX_PART → IsSmallFraction (record { num = num; den = den / g })
reduced_small negative size den g num positive gcd is top bottom =
    let form = reduced_form negative size den g num positive gcd is in
    let e : nat_abs num ≡ size / g = ap nat_abs is ∙ nat_abs_signed negative (size / g) in
    record {
      positive = form.positive;
      reduced = form.reduced;
      num = omega (arith, e, top);
      den = bottom;
    }

times : (k a b : ℕ) → a ≡ b → a * k ≡ b * k
times k a b e = ap (λ t. t * k) e

-- the sum e G + s t E, by what its parts are above and below 0
pub total : (e s t : ℤ) (E G : ℕ)
    → up (e *ℤ pos G +ℤ s *ℤ t *ℤ pos E) + (down e * G + up s * down t * E + down s * up t * E)
    ≡ down (e *ℤ pos G +ℤ s *ℤ t *ℤ pos E) + (up e * G + up s * up t * E + down s * down t * E)
total e s t E G =
    omega (
      arith,
      sum_is_lem (e *ℤ pos G) (s *ℤ t *ℤ pos E),
      product_is e (pos G),
      product_is (s *ℤ t) (pos E),
      times E _ _ (product_is s t).0,
      times E _ _ (product_is s t).1,
    )

pub below_is : (z : ℤ) (plus minus : ℕ) → up z + minus ≡ down z + plus → plus < minus → z ≡ signed true (minus - plus)
below_is z plus minus e less = same_in z (neg_ℤ (pos (minus - plus))) (omega (arith, ints, e))

pub above_is : (z : ℤ) (plus minus : ℕ) → up z + minus ≡ down z + plus → minus ≤ plus → z ≡ signed false (plus - minus)
above_is z plus minus e less = same_in z (pos (plus - minus)) (omega (arith, ints, e))

pub positive3 : (a b c : ℕ) → 1 ≤ a → 1 ≤ b → 1 ≤ c → 1 ≤ a * b * c
positive3 a b c h j k = mul-pos {m = a * b} {n = c} (mul-pos {m = a} {n = b} (omega arith) (omega arith)) (omega arith)
