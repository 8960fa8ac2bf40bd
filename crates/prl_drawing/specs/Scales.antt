-- Where a tick stands in a picture.
use Rattle.std.specs.Prelude.{◌+◌, ◌-◌, ◌*◌, ◌/◌, ◌<◌, ◌^◌, ◌&&◌, ℕ, Bool, min, nat_lt}
use Rattle.prl_drawing.specs.declared.scales.TheConstants.{LEFT, WIDTH}
use Rattle.prl_drawing.specs.declared.scales.Scale.{Scale}

-- some ticks are drawn, and these fit in 34 bits
abbrev pub IsScale : Scale → Type 0
IsScale scale = (scale.from < 2 ^ 32) × (0 < scale.span) × (scale.span < 2 ^ 33)

-- in tenths of a pixel, from the left: the width is shared by the ticks of the span
abbrev pub x_of : Scale → ℕ → ℕ
x_of scale tick = LEFT + (tick - scale.from) * WIDTH / scale.span

-- where a tick stands; one behind the last stands where that does
abbrev pub x_within : Scale → ℕ → ℕ
x_within scale tick = x_of scale (min tick (scale.from + scale.span))

-- some ticks of an interval are drawn
abbrev pub is_seen : Scale → ℕ → ℕ → Bool
is_seen scale from to = nat_lt scale.from to && nat_lt from (scale.from + scale.span)
