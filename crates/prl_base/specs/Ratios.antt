-- Ratios: reduced fractions whose parts are small.
use Rattle.std.specs.Prelude.{◌≤◌, ℕ, ℤ, nat_abs}
use Rattle.std.specs.Int.{IsGcd}
use Rattle.prl_base.specs.declared.ratios.TheConstants.{MAX_PART}

pub record Fraction : Type 0 where
  pub num : ℤ
  pub den : ℕ

-- reduced, with a denominator of at least 1, and neither part past the greatest
pub record IsSmallFraction (f : Fraction) : Type 0 where
  pub positive : 1 ≤ f.den
  pub reduced : IsGcd (nat_abs f.num) f.den 1
  pub num : nat_abs f.num ≤ MAX_PART
  pub den : f.den ≤ MAX_PART
