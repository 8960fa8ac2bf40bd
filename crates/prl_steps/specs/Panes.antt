-- Where a level stands.
use Rattle.std.specs.Prelude.{◌-◌, ◌*◌, ◌/◌, ◌==◌, ℕ, List, [], ◌∷◌, if◌then◌else◌, min}
use Rattle.prl_base.specs.declared.values.Ty.{Ty}
use Rattle.prl_base.specs.declared.values.Ty.TheVariants as types
use Rattle.prl_steps.specs.declared.panes.Pane.{Pane}
use Rattle.prl_steps.specs.declared.samples.Step.{Step}
use Rattle.prl_steps.specs.Steps.{greatest_of, least_of}

-- how far above the bottom of its pane: the height is shared by the levels from the lowest to the highest. Where all are one,
-- it stands in the middle
abbrev pub rise_of : Pane → ℕ → ℕ
rise_of pane level =
    if pane.high - pane.low == 0 then pane.height / 2
    else min pane.height ((level - pane.low) * pane.height / (pane.high - pane.low))

-- how far from the top of the picture, in tenths of a pixel
abbrev pub y_of : Pane → ℕ → ℕ
y_of pane level = pane.bottom - rise_of pane level

-- how high the pane of a flow is, in tenths of a pixel
abbrev pub height_of : Ty → ℕ
height_of types.Int = 480
height_of types.Bool = 160

-- a pane shows the levels from the least to the greatest one of the steps that are drawn in it, and both truth values
abbrev pub pane_of : Ty → ℕ → List Step → Pane
pane_of types.Bool bottom steps = record { bottom = bottom; height = height_of types.Bool; low = 0; high = 1 }
pane_of types.Int bottom [] = record { bottom = bottom; height = height_of types.Int; low = 0; high = 0 }
pane_of types.Int bottom (step ∷ steps) =
    record { bottom = bottom; height = height_of types.Int; low = least_of step.level steps; high = greatest_of step.level steps }
