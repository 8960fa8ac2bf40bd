-- Fractions in lowest terms, and what the arithmetic of ratios gives.
use Rattle.std.specs.Prelude.{◌≡◌, ◌≤◌, ◌<◌, ◌*ℤ◌, ◌⊎◌, ℕ, ℤ, pos, neg_ℤ, nat_abs, Bool, true, false, Result, Ok, Err}
use Rattle.std.specs.Int.{IsGcd}
use Rattle.prl_base.specs.Ratios.{Fraction, IsSmallFraction}
use Rattle.prl_base.specs.declared.ratios.Past.{Past}
use Rattle.prl_base.specs.declared.ratios.TheConstants.{MAX_PART}

-- the fraction is in lowest terms and equals top / bottom, by multiplying crosswise
pub record IsReducedForm (top bottom : ℤ) (f : Fraction) : Type 0 where
  pub positive : 1 ≤ f.den
  pub reduced : IsGcd (nat_abs f.num) f.den 1
  pub equal : f.num *ℤ bottom ≡ top *ℤ pos f.den

-- a part of the fraction is past the greatest
abbrev pub IsPast : Fraction → Type 0
IsPast f = (MAX_PART < nat_abs f.num) ⊎ (MAX_PART < f.den)

-- top / bottom in lowest terms; an error where a part of that is past the greatest
abbrev pub IsReduction : ℤ → ℤ → Result Fraction Past → Type 0
IsReduction top bottom (Ok f) = IsReducedForm top bottom f × IsSmallFraction f
IsReduction top bottom (Err past) = (f : Fraction) × (IsReducedForm top bottom f × IsPast f)

-- the number of this sign and size
abbrev pub signed : Bool → ℕ → ℤ
signed true size = neg_ℤ (pos size)
signed false size = pos size
