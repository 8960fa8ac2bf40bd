-- The ratios of texts are reduced and not negative, and such ratios are read as themselves.
use Rattle.prl_base.proofs.Standard.{◌≡◌, ◌==◌, ◌≤◌, ◌<◌, ◌/◌, ◌%◌, ◌≤ℤ◌, ℕ, zero, suc, ℤ, pos, negsuc, nat_abs, Option, Some, None, refl, sym, ap, ◌∙◌, subst, ⊎_elim, arith, cond-false, cond_both}
use Rattle.prl_base.proofs.Standard.{cases_lt, ne_eqb, nat_tests, ints, IsGcd-from_zero, IsGcd-from_mod, IsGcd-swap, div-one, IsGcd}
use Rattle.prl_base.specs.Ratios.{Fraction}
use Rattle.prl_ast.specs.InRange.{IsShift}
use Rattle.prl_syntax.specs.Values.{small, common_divisor, reduced, ratio_of, ratio_with}
use Rattle.prl_syntax.proofs.Ratios.{divisor_is, positive_divisor, reduced_fits}

has_divisor : (fuel a b : ℕ) → b ≤ fuel → (g : ℕ) × IsGcd a b g
has_divisor zero a b le = (a, IsGcd-from_zero a b (omega arith))
has_divisor (suc fuel) a b le = ⊎_elim
    (λ some.
    let g = has_divisor fuel b (a % b) (omega arith) in
    (g.0, IsGcd-from_mod a b g.0 g.1))
    (λ none. (a, IsGcd-from_zero a b (omega arith)))
    (cases_lt 0 b)

abbrev fraction : ℤ → ℕ → Fraction
fraction num den = record { num = num; den = den }

none_fits : IsShift (fraction (pos 0) 1)
none_fits = (record { positive = omega arith; reduced = IsGcd-swap 1 0 1 (IsGcd-from_zero 1 0 refl); num = omega arith; den = omega arith }, omega (arith, ints))

reduced_shift : (a b : ℕ) → a ≤ 2147483647 → 1 ≤ b → b ≤ 2147483647 → IsShift (reduced a b)
reduced_shift a b high low den_high =
    let g = has_divisor b a b (omega arith) in
    let above : 0 < g.0 = positive_divisor a b g.0 g.1 (omega arith) in
    let P : ℕ → Type 0 = λ d. IsShift (fraction (pos (a / d)) (b / d)) in
    subst P (sym (divisor_is a b g.0 g.1 (omega arith))) (reduced_fits a b g.0 g.1 above (omega arith) (omega arith) (omega arith), omega (arith, ints))

ratio_shift : (num den : ℕ) → IsShift (ratio_of num den)
ratio_shift num den = cond_both (small den == 0) (fraction (pos 0) 1) (reduced (small num) (small den)) IsShift (λ zero. none_fits) (λ some. reduced_shift (small num) (small den) (omega arith) (grind (arith, nat_tests, some)) (omega arith))

pub is_shift : (num : ℕ) (o : Option ℕ) → IsShift (ratio_with num o)
is_shift num None = ratio_shift num 1
is_shift num (Some den) = ratio_shift num den

pub natural : (z : ℤ) → pos 0 ≤ℤ z → pos (nat_abs z) ≡ z
natural (pos n) h = refl
natural (negsuc n) h = absurd (omega (arith, ints, h))

pub reads_itself : (q : Fraction) → IsShift q → ratio_of (nat_abs q.num) q.den ≡ q
reads_itself q h =
    let num : ℕ = nat_abs q.num in
    let top : small num ≡ num = omega (arith, h.0.num) in
    let bottom : small q.den ≡ q.den = omega (arith, h.0.den) in
    let divisor : common_divisor num q.den ≡ 1 = divisor_is num q.den 1 h.0.reduced (omega (arith, h.0.positive)) in
    cond-false (small q.den == 0) _ _ (ne_eqb (small q.den) 0 (λ e. omega (arith, h.0.positive)))
    ∙ ap (λ n. reduced n (small q.den)) top ∙ ap (reduced num) bottom
    ∙ ap (λ g. fraction (pos (num / g)) (q.den / g)) divisor
    ∙ ap (λ n. fraction (pos n) (q.den / 1)) (div-one num) ∙ ap (fraction (pos num)) (div-one q.den)
    ∙ ap (λ z. fraction z q.den) (natural q.num h.1)
