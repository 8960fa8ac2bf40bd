-- Divisors by division.
use Rattle.prl_base.proofs.Standard.{◌≡◌, ◌==◌, ◌%◌, ◌<◌, ℕ, zero, suc, Bool, true, false, cond, refl, arith, IsGcd, eqb-true, IsGcd-from_zero, IsGcd-from_mod, same_from_IsGcd, mod_below}
use borrow.Author.Tests.{eqb-false}
use Rattle.prl_plantext.specs.code.Graphs.{divisor_by}

by_test : (t : Bool) (steps a b : ℕ) → (b == 0) ≡ t → b < suc steps → ((c d : ℕ) → d < steps → IsGcd c d (divisor_by steps c d)) →
    IsGcd a b (cond t a (divisor_by steps b (a % b)))
by_test true steps a b e few below = IsGcd-from_zero a b (eqb-true b 0 e)
by_test false steps a b e few below =
    let none = eqb-false b 0 e in
    let less = mod_below a b (omega (arith, none)) in
    IsGcd-from_mod a b _ (below b (a % b) (omega (arith, less, few)))

is_divisor : (steps a b : ℕ) → b < steps → IsGcd a b (divisor_by steps a b)
is_divisor zero a b few = absurd (omega (arith, few))
is_divisor (suc steps) a b few = by_test (b == 0) steps a b refl few (is_divisor steps)

pub same_divisor : (a b g : ℕ) → IsGcd a b g → g ≡ divisor_by (suc b) a b
same_divisor a b g is = same_from_IsGcd a b g _ is (is_divisor (suc b) a b (omega arith))
