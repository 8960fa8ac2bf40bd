-- The timing of a rate in lowest terms.
use Rattle.std.specs.Prelude.{◌≡◌, ◌*ℤ◌, pos}
use Rattle.prl_base.specs.Ratios.{Fraction}
use Rattle.prl_base.specs.Reductions.{IsReducedForm}
use Rattle.prl_clock.specs.code.Composition.{IsPastTerms, IsSmallTiming}
use Rattle.prl_flow.specs.declared.standings.Timing.{Timing}

-- the timing `t` is `q`, whose start need not be in lowest terms
pub record IsReducedTiming (q t : Timing) : Type 0 where
  pub period : t.period ≡ q.period
  pub start : IsReducedForm q.start.num (pos q.start.den) t.start
  pub small : IsSmallTiming t

-- its start is past the limit
pub record IsTimingPast (q : Timing) : Type 0 where
  pub terms : Fraction
  pub past : IsPastTerms terms
  pub equal : terms.num *ℤ pos q.start.den ≡ q.start.num *ℤ pos terms.den
