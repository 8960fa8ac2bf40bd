-- Common multiples.
use Prim.Native.Nat.{◌∣◌}
use Rattle.prl_base.proofs.Standard.{◌≡◌, ◌<◌, ◌≤◌, ◌*◌, ◌/◌, ℕ, zero, suc, refl, sym, ◌∙◌, ap, subst, arith, ⊎_elim, mul_comm, mul_assoc}
use Rattle.prl_base.proofs.Standard.{dvd-mul_left, mul-div_cancel, div-mul_cancel, cases_lt, dvd_antisymm, IsGcd}
use Rattle.prl_base.proofs.Coprime.{divides_other, quotients_coprime}
use Rattle.prl_plan.specs.Graphs.{Divides}
use Rattle.prl_numbers.specs.Multiples.{IsLeastMultiple}

pub to_dvd : (k n : ℕ) → Divides k n → k ∣ n
to_dvd k n (times, is) = let P : ℕ → Type 0 = λ m. k ∣ m in subst P (sym is) (dvd-mul_left k times)

pub from_dvd : (k n : ℕ) → k ∣ n → Divides k n
from_dvd k n divides = (n / k, sym (div-mul_cancel k divides))

-- what divides a number of at least 1 is at least 1
pub divisor_positive : (k n : ℕ) → 1 ≤ n → Divides k n → 1 ≤ k
divisor_positive zero n positive (times, is) = absurd (omega arith)
divisor_positive (suc k) n positive divides = omega arith

pub divides_trans : (a b c : ℕ) → Divides a b → Divides b c → Divides a c
divides_trans a b c (x, xs) (y, ys) = (y * x, ys ∙ ap (λ n. y * n) xs ∙ sym (mul_assoc y x a))

pub divides_both : (a b : ℕ) → Divides a b → Divides b a → a ≡ b
divides_both a b one other = dvd_antisymm (to_dvd a b one) (to_dvd b a other)

cancel : (a b g : ℕ) → 0 < g → a * g ≡ b * g → a ≡ b
cancel a b g some same = sym (mul-div_cancel a some) ∙ ap (λ n. n / g) same ∙ mul-div_cancel b some

pub least_multiple_is : (h t g : ℕ) → 1 ≤ h → 1 ≤ t → IsGcd h t g → IsLeastMultiple h t (h / g * t)
least_multiple_is h t g some_h some_t gcd =
    let some : 0 < g = divisor_positive g h some_h (from_dvd g h gcd.0) in
    let h_is : h / g * g ≡ h = div-mul_cancel g gcd.0 in
    let t_is : t / g * g ≡ t = div-mul_cancel g gcd.1 in
    let whole : h / g * t ≡ t / g * h =
    ap (λ n. h / g * n) (sym t_is) ∙ sym (mul_assoc (h / g) (t / g) g) ∙ ap (λ n. n * g) (mul_comm (h / g) (t / g)) ∙ mul_assoc (t / g) (h / g) g ∙ ap (λ n. t / g * n) h_is in
    let least : (n : ℕ) → Divides h n → Divides t n → Divides (h / g * t) n = λ n (a, by_h) (b, by_t).
    (let over : a * (h / g) ≡ b * (t / g) =
    cancel (a * (h / g)) (b * (t / g)) g some
    (mul_assoc a (h / g) g ∙ ap (λ m. a * m) h_is ∙ sym by_h ∙ by_t ∙ ap (λ m. b * m) (sym t_is) ∙ sym (mul_assoc b (t / g) g)) in
    let P : ℕ → Type 0 = λ m. t / g ∣ m in
    let divides : t / g ∣ h / g * a = subst P (sym over ∙ mul_comm a (h / g)) (dvd-mul_left (t / g) b) in
    let (c, c_is) = from_dvd (t / g) a (divides_other (h / g) (t / g) a (quotients_coprime h t g some gcd) divides) in
    (c, by_h ∙ ap (λ m. m * h) c_is ∙ mul_assoc c (t / g) h ∙ ap (λ m. c * m) (sym whole))) in
    let positive : 1 ≤ h / g * t =
    ⊎_elim (λ none. absurd (let e : h / g * t ≡ 0 = omega arith in let d : Divides h 0 = subst (Divides h) e (t / g, whole) in zero_product h t g some_h some_t some gcd.0 e)) (λ more. more) (cases_lt (h / g * t) 1) in
    record { positive = positive; first = (t / g, whole); second = (h / g, refl); least = least }
  where
    zero_product : (h t g : ℕ) → 1 ≤ h → 1 ≤ t → 0 < g → g ∣ h → h / g * t ≡ 0 → ⊥
    zero_product h t g some_h some_t some divides none =
        let one : h / g * 1 ≤ h / g * t = grind arith in
        let q : h / g ≡ 0 = omega arith in
        let e : h ≡ 0 = sym (div-mul_cancel g divides) ∙ ap (λ m. m * g) q ∙ (let z : 0 * g ≡ 0 = omega arith in z) in
        omega arith
