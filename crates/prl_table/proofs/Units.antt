-- Counts of the ticks of a run that go to a job.
use Rattle.std.proofs.Common.{◌≡◌, ◌+◌, ◌<◌, ◌≤◌, ℕ, zero, suc, Bool, true, false, refl, ap, arith, cond}
use Rattle.prl_table.specs.Made.{Run, units_in}

module _ (run : Run) where
  pub units_none : (from n i m : ℕ) → ((t : ℕ) → from ≤ t → t < from + n → run t i m ≡ true → ⊥) → units_in run from n i m ≡ 0
  units_none from zero i m none = refl
  units_none from (suc n) i m none =
      let rest = units_none from n i m (λ t low high. none t low (omega (arith, high))) in
      go (run (from + n) i m) refl rest
    where
      go : (b : Bool) → run (from + n) i m ≡ b → units_in run from n i m ≡ 0 → units_in run from (suc n) i m ≡ 0
      go true at rest = absurd (none (from + n) (omega arith) (omega arith) at)
      go false at rest = (let e : units_in run from (suc n) i m ≡ units_in run from n i m + 0 = ap (λ (b : Bool). units_in run from n i m + cond b 1 0) at in omega (arith, e, rest))

  pub units_join : (from n k i m : ℕ) → units_in run from (k + n) i m ≡ units_in run from n i m + units_in run (from + n) k i m
  units_join from n zero i m = (let e : 0 + n ≡ n = omega arith in let s = ap (λ (x : ℕ). units_in run from x i m) e in omega (arith, s))
  units_join from n (suc k) i m =
      let rest = units_join from n k i m in
      let e : suc k + n ≡ suc (k + n) = omega arith in
      let s = ap (λ (x : ℕ). units_in run from x i m) e in
      let f : from + (k + n) ≡ from + n + k = omega arith in
      let t = ap {B = ℕ} (λ (x : ℕ). cond (run x i m) 1 0) f in
      let one : units_in run from (suc (k + n)) i m ≡ units_in run from (k + n) i m + cond (run (from + (k + n)) i m) 1 0 = refl in
      let two : units_in run (from + n) (suc k) i m ≡ units_in run (from + n) k i m + cond (run (from + n + k) i m) 1 0 = refl in
      omega (arith, rest, s, t, one, two)

  pub units_same : (a b n i m k : ℕ) → ((t : ℕ) → t < n → run (a + t) i m ≡ run (b + t) i k) → units_in run a n i m ≡ units_in run b n i k
  units_same a b zero i m k same = refl
  units_same a b (suc n) i m k same =
      let rest = units_same a b n i m k (λ t below. same t (omega (arith, below))) in
      let t = ap {B = ℕ} (λ (x : Bool). cond x 1 0) (same n (omega arith)) in
      let one : units_in run a (suc n) i m ≡ units_in run a n i m + cond (run (a + n) i m) 1 0 = refl in
      let two : units_in run b (suc n) i k ≡ units_in run b n i k + cond (run (b + n) i k) 1 0 = refl in
      omega (arith, rest, t, one, two)
