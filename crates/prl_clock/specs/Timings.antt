-- Periods and starts: whole numbers of one small unit, and ratios between them.
use Rattle.std.specs.Prelude.{◌≡◌, ◌*ℤ◌, ◌-ℤ◌, ℕ, ℤ, pos}
use Rattle.prl_base.specs.Ratios.{Fraction}
use Rattle.prl_base.specs.Reductions.{IsReducedForm}
use Rattle.prl_flow.specs.declared.standings.Timing.{Timing}

-- a period and a start, in parts of a tick
pub record Point : Type 0 where
  pub period : ℕ
  pub start : ℤ

-- the fraction is x / y, by multiplying crosswise
abbrev pub IsRatio : Fraction → ℤ → ℕ → Type 0
IsRatio f x y = f.num *ℤ pos y ≡ x *ℤ pos f.den

-- The period of `x` is so many periods of `y`, and it starts so many periods of `y` after `y`.
pub record IsOver (q : Timing) (x y : Point) : Type 0 where
  pub period : IsRatio q.period (pos x.period) y.period
  pub start : IsRatio q.start (x.start -ℤ y.start) y.period

-- the period of `x` in periods of `y`, in lowest terms
abbrev pub IsPeriodOver : Fraction → Point → Point → Type 0
IsPeriodOver f x y = IsReducedForm (pos x.period) (pos y.period) f

-- how many periods of `y` the start of `x` is after that of `y`, in lowest terms
abbrev pub IsStartOver : Fraction → Point → Point → Type 0
IsStartOver f x y = IsReducedForm (x.start -ℤ y.start) (pos y.period) f
