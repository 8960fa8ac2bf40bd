-- The draw: a state, the state that comes after it, modulo 2^64, and the number that is read from the
-- upper 31 bits of that one.
use Rattle.std.specs.Prelude.{ℕ, zero, suc, ◌+◌, ◌*◌, ◌/◌, ◌%◌, ◌^◌}
use Rattle.prl_gen.specs.declared.draws.TheConstants.{MULTIPLIER, INCREMENT}

unfoldable pub next : ℕ → ℕ
next state = (state * MULTIPLIER + INCREMENT) % 2 ^ 64

-- the state after this many draws
abbrev pub state_after : ℕ → ℕ → ℕ
state_after state zero = state
state_after state (suc draws) = next (state_after state draws)

-- the number below `bound` that is drawn at a state
abbrev pub draw : ℕ → ℕ → ℕ
draw bound state = (next state / 2 ^ 33) % bound
