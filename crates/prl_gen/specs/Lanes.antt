-- What is drawn for the lanes, in this order: a period for each, a factor for each, and then lane after
-- lane the values of its sensor.
use Rattle.std.specs.Prelude.{ℕ, zero, suc, ℤ, pos, ◌+◌, ◌*◌, ◌<◌, ◌^◌, ◌-ℤ◌, List, [], ◌∷◌, All, slice_index}
use Rattle.std.specs.Int.{div_ceil}
use Rattle.prl_gen.specs.Draws.{draw, state_after}
use Rattle.prl_gen.specs.Numbered.{each}
use Rattle.prl_gen.specs.declared.lanes.TheConstants.{UNTIL, SHORTEST_PERIOD}

-- a period of 40, 80 or 160 ticks, a factor of 1 to 3, and a value of -1000 to 1000

abbrev pub period_at : ℕ → ℕ
period_at state = SHORTEST_PERIOD * 2 ^ draw 3 state

abbrev pub factor_at : ℕ → ℕ
factor_at state = 1 + draw 3 state

abbrev pub value_at : ℕ → ℤ
value_at state = pos (draw 2001 state) -ℤ pos 1000

-- the periods of the lanes, drawn one after another from a state on
abbrev pub periods_from : ℕ → ℕ → List ℕ
periods_from state size = each (λ lane. period_at (state_after state lane) ∷ []) size

-- the factors of the lanes, likewise
abbrev pub factors_from : ℕ → ℕ → List ℕ
factors_from state size = each (λ lane. factor_at (state_after state lane) ∷ []) size

-- no period is 0
abbrev pub ArePositive : List ℕ → Type 0
ArePositive periods = All (λ period. 0 < period) periods

-- how many instances of a sensor with this period are before the end: instance `m` is at the date `m`
-- times the period
abbrev pub instances : ℕ → ℕ
instances period = div_ceil UNTIL period

-- the state at which the values of a lane begin, where those of lane 0 begin at `state`
abbrev pub state_of_lane : List ℕ → ℕ → ℕ → ℕ
state_of_lane periods state zero = state
state_of_lane periods state (suc lane) =
    state_after (state_of_lane periods state lane) (instances (slice_index periods lane))
