-- The greatest common divisor, and reduced ratios.
use Rattle.prl_base.proofs.Standard.{◌≡◌, pos, ℕ, zero, suc, ◌*◌, ◌/◌, ◌%◌, ◌<◌, ◌≤◌, true, ◌&&◌, ◌==◌, sym, ◌∙◌, subst, ⊎_elim, arith, cond-true, cond-false, cases_lt, cases_Bool, and_parts}
use Rattle.prl_base.proofs.Standard.{and_from, eqb-true, eq-eqb, true≢false, dvd_of_mod-eq-zero, mod-eq-zero_of_dvd, le_of_dvd, dvd_of_mul-dvd-mul_left, mul-dvd-mul_left, mul-div_cancel', one-dvd}
use Rattle.prl_base.proofs.Standard.{eq-zero_of_zero-dvd, div-le_self, IsGcd, ◌∣◌}
use Rattle.std.proofs.Math.Nat.{mul-zero}
use Rattle.prl_base.specs.Ratios.{IsSmallFraction}
use Rattle.prl_base.specs.declared.ratios.TheConstants.{MAX_PART}
use Rattle.prl_syntax.specs.Values.{divisor_up_to, common_divisor}

greatest : (k a b g : ℕ) → IsGcd a b g → 0 < g → g ≤ k → 0 < b → divisor_up_to k a b ≡ g
greatest zero a b g h above le some = absurd (omega arith)
greatest (suc k) a b g h above le some = ⊎_elim
    (λ e.
    let both = and_parts (a % suc k == 0) (b % suc k == 0) e in
    let divides : suc k ∣ g = h.2 (suc k) (dvd_of_mod-eq-zero (suc k) (eqb-true (a % suc k) 0 both.0)) (dvd_of_mod-eq-zero (suc k) (eqb-true (b % suc k) 0 both.1)) in
    let small : suc k ≤ g = le_of_dvd above divides in
    cond-true ((a % suc k == 0) && (b % suc k == 0)) _ _ e ∙ omega arith)
    (λ e. ⊎_elim
    (λ lt. cond-false ((a % suc k == 0) && (b % suc k == 0)) _ _ e ∙ greatest k a b g h above (omega arith) some)
    (λ ge.
    let same : g ≡ suc k = omega arith in
    let P : ℕ → Type 0 = λ d. IsGcd a b d in
    let there = subst P same h in
    let test : ((a % suc k == 0) && (b % suc k == 0)) ≡ true = and_from (a % suc k == 0) (b % suc k == 0) (eq-eqb (a % suc k) 0 (mod-eq-zero_of_dvd (suc k) there.0)) (eq-eqb (b % suc k) 0 (mod-eq-zero_of_dvd (suc k) there.1)) in
    absurd (true≢false (sym test ∙ e)))
    (cases_lt g (suc k)))
    (cases_Bool ((a % suc k == 0) && (b % suc k == 0)))

pub positive_divisor : (a b g : ℕ) → IsGcd a b g → 0 < b → 0 < g
positive_divisor a b g h some = ⊎_elim (λ lt. lt) (λ le. let none : g ≡ 0 = omega arith in let P : ℕ → Type 0 = λ d. d ∣ b in absurd (omega (arith, eq-zero_of_zero-dvd (subst P none h.1)))) (cases_lt 0 g)

pub divisor_is : (a b g : ℕ) → IsGcd a b g → 0 < b → common_divisor a b ≡ g
unfolding common_divisor
divisor_is a b g h some =
    let above : 0 < g = positive_divisor a b g h some in
    greatest b a b g h above (le_of_dvd some h.1) some

-- what both parts are divided by is their greatest divisor, so nothing divides both any more
pub reduced_fits : (num den g : ℕ) → IsGcd num den g → 0 < g → num ≤ MAX_PART → 0 < den → den ≤ MAX_PART → IsSmallFraction (record { num = pos (num / g); den = den / g })
reduced_fits num den g h positive below some den_below =
    let num_is : g * (num / g) ≡ num = mul-div_cancel' g h.0 in
    let den_is : g * (den / g) ≡ den = mul-div_cancel' g h.1 in
    record {
      positive = above (den / g) den_is;
      reduced = (
        one-dvd (num / g),
        one-dvd (den / g),
        λ e a b.
            let P : ℕ → Type 0 = λ n. g * e ∣ n in
            let both : g * e ∣ g = h.2 (g * e) (subst P num_is (mul-dvd-mul_left e g a)) (subst P den_is (mul-dvd-mul_left e g b)) in
            let Q : ℕ → Type 0 = λ n. g * e ∣ n in
            let one : g ≡ g * 1 = omega arith in
            dvd_of_mul-dvd-mul_left e positive (subst Q one both),
      );
      num = omega (arith, div-le_self num g);
      den = omega (arith, div-le_self den g);
    }
  where
    above : (q : ℕ) → g * q ≡ den → 1 ≤ q
    above zero e = absurd (omega (arith, e, mul-zero g))
    above (suc q) e = omega arith
