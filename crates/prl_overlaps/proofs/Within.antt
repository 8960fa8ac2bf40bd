-- Jobs that are released and due within an interval, and their costs.
use Rattle.prl_base.proofs.Standard.{◌≡◌, ◌≤◌, ℕ, true, false, ◌⊎◌, inl, inr, refl, arith, nat_tests}
use Rattle.prl_plan.specs.Runs.{RunConstants}
use Rattle.prl_overlaps.specs.Demand.{is_within, cost_within}

module _ (c : RunConstants) (a b : ℕ) where
  pub inside : (i n : ℕ) → a ≤ c.release i n → c.deadline i n ≤ b → is_within c a b i n ≡ true
  inside i n late early = grind (arith, nat_tests)

  pub inside_or_not : (i n : ℕ) → ((a ≤ c.release i n) × (c.deadline i n ≤ b) × (is_within c a b i n ≡ true)) ⊎ (is_within c a b i n ≡ false)
  inside_or_not i n = grind (arith, nat_tests)

  pub cost_inside : (f : ℕ → ℕ → ℕ) (i n : ℕ) → is_within c a b i n ≡ true → cost_within c f a b i n ≡ f i n
  cost_inside f i n is = rw is refl

  pub cost_outside : (f : ℕ → ℕ → ℕ) (i n : ℕ) → is_within c a b i n ≡ false → cost_within c f a b i n ≡ 0
  cost_outside f i n is = rw is refl

  pub cost_rises : (f g : ℕ → ℕ → ℕ) (i n : ℕ) → f i n ≤ g i n → cost_within c f a b i n ≤ cost_within c g a b i n
  cost_rises f g i n h = elim (inside_or_not i n) [
    | inl is ↦ (let e = cost_inside f i n is.2 in let d = cost_inside g i n is.2 in omega (arith, e, d, h))
    | inr is ↦ (let e = cost_outside f i n is in omega (arith, e))
  ]
