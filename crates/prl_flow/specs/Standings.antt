-- Where each flow stands while clocks are sought, and the lowest flow that is left without one.
use Rattle.std.specs.Prelude.{◌≡◌, ◌<◌, ℕ, pos, List, length, Some, None, slice_index_or}
use Rattle.prl_base.specs.Ratios.{Fraction}
use Rattle.prl_flow.specs.declared.standings.Standing.{Standing}
use Rattle.prl_flow.specs.declared.standings.Timing.{Timing}

abbrev pub over_one : ℕ → Fraction
over_one n = record { num = pos n; den = 1 }

-- one clock
abbrev pub same_clock : Timing
same_clock = record { period = over_one 1; start = over_one 0 }

-- a flow that no constraint names
abbrev pub alone : ℕ → Standing
alone x = record { root = x; over = same_clock; clock = None }

abbrev pub standing_at : List Standing → ℕ → Standing
standing_at st x = slice_index_or st x (alone x)

abbrev pub HasClock : List Standing → ℕ → Type 0
HasClock st x = (t : Timing) × ((standing_at st x).clock ≡ Some t)

-- the lowest flow without a clock
pub record IsFirstFree (st : List Standing) (i : ℕ) : Type 0 where
  pub within : i < length st
  pub free : (standing_at st i).clock ≡ None
  pub earlier : (x : ℕ) → x < i → HasClock st x
