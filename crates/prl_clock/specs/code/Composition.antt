-- Timings one over another: what a flow is over a second one and that over a third make the first over the third.
use Rattle.std.specs.Prelude.{◌≡◌, ◌≤◌, ◌*◌, ◌+ℤ◌, ◌*ℤ◌, pos, nat_abs}
use Rattle.std.specs.Int.{IsGcd}
use Rattle.prl_base.specs.Ratios.{Fraction, IsSmallFraction}
use Rattle.prl_base.specs.Reductions.{IsPast}
use Rattle.prl_flow.specs.declared.standings.Timing.{Timing}

-- h = f g
abbrev pub IsProduct : Fraction → Fraction → Fraction → Type 0
IsProduct f g h = h.num *ℤ pos (f.den * g.den) ≡ f.num *ℤ g.num *ℤ pos h.den

-- h = e + f g
abbrev pub IsSum : Fraction → Fraction → Fraction → Fraction → Type 0
IsSum e f g h = h.num *ℤ pos (e.den * f.den * g.den) ≡ (e.num *ℤ pos (f.den * g.den) +ℤ f.num *ℤ g.num *ℤ pos e.den) *ℤ pos h.den

-- `r` is a first flow over a third, where `p` is the first over a second, and `q` the second over the third
pub record IsComposed (p q r : Timing) : Type 0 where
  pub period : IsProduct p.period q.period r.period
  pub start : IsSum q.start p.start q.period r.start

pub record IsSmallTiming (q : Timing) : Type 0 where
  pub period : IsSmallFraction q.period
  pub start : IsSmallFraction q.start

-- the denominators are not 0
pub record HasParts (q : Timing) : Type 0 where
  pub period : 1 ≤ q.period.den
  pub start : 1 ≤ q.start.den

-- in lowest terms, and past the limit
pub record IsPastTerms (f : Fraction) : Type 0 where
  pub positive : 1 ≤ f.den
  pub reduced : IsGcd (nat_abs f.num) f.den 1
  pub past : IsPast f

-- a part of the first over the third is past the limit
pub data IsComposedPast (p q : Timing) : Type 0 where
  composed_period : (f : Fraction) → IsPastTerms f → IsProduct p.period q.period f → IsComposedPast p q
  composed_start : (f : Fraction) → IsPastTerms f → IsSum q.start p.start q.period f → IsComposedPast p q

-- a part of the second over the third is past the limit
pub data IsOverPast (p r : Timing) : Type 0 where
  over_period : (f : Fraction) → IsPastTerms f → IsProduct p.period f r.period → IsOverPast p r
  over_start : (f g : Fraction) → 1 ≤ g.den → IsPastTerms f → IsProduct p.period g r.period → IsSum f p.start g r.start → IsOverPast p r
