-- The steps that begin in one pixel column, as one.
use Rattle.std.specs.Prelude.{◌-◌, ◌/◌, ◌==◌, ℕ, Bool, List, [], ◌∷◌, Option, Some, None, map, max, min}
use Rattle.std.specs.List.{filter, range_with_len}
use Rattle.prl_drawing.specs.declared.scales.Scale.{Scale}
use Rattle.prl_drawing.specs.declared.scales.TheConstants.{LEFT}
use Rattle.prl_drawing.specs.Scales.{x_within}
use Rattle.prl_steps.specs.declared.bars.Bar.{Bar}
use Rattle.prl_steps.specs.declared.bars.TheConstants.{COLUMNS}
use Rattle.prl_steps.specs.declared.samples.Step.{Step}

-- the pixel column of a tick; the last one for a tick behind it
abbrev pub column_of : Scale → ℕ → ℕ
column_of scale tick = min ((x_within scale tick - LEFT) / 10) (COLUMNS - 1)

abbrev pub begins_in : Scale → ℕ → Step → Bool
begins_in scale column step = column_of scale step.from == column

-- a step before those of a bar
abbrev pub joined : Scale → Step → Option Bar → Bar
joined scale step None = record { x = x_within scale step.from; low = step.level; high = step.level; last = step.level }
joined scale step (Some bar) =
    record { x = x_within scale step.from; low = min step.level bar.low; high = max step.level bar.high; last = bar.last }

-- steps as one bar: where the first begins, over all their levels, and then on at the last
abbrev pub bar_of : Scale → List Step → Option Bar
bar_of scale [] = None
bar_of scale (step ∷ steps) = Some (joined scale step (bar_of scale steps))

-- the bars of the first columns, so many: each of the steps that begin there
unfoldable pub columns_of : ℕ → Scale → List Step → List (Option Bar)
columns_of count scale steps = map (λ column. bar_of scale (filter (begins_in scale column) steps)) (range_with_len 0 count)

-- the bar of each pixel column
abbrev pub bars_of : Scale → List Step → List (Option Bar)
bars_of scale steps = columns_of COLUMNS scale steps
