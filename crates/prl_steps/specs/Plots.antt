-- The plots of flows, one below another.
use Rattle.std.specs.Prelude.{◌≡◌, ◌+◌, ◌++◌, ℕ, List, [], ◌∷◌}
use Rattle.prl_drawing.specs.declared.scales.Scale.{Scale}
use Rattle.prl_steps.specs.declared.panes.TheConstants.{BETWEEN}
use Rattle.prl_steps.specs.Flows.{FlowView}
use Rattle.prl_steps.specs.Panes.{height_of, pane_of}
use Rattle.prl_steps.specs.Paths.{path_text}
use Rattle.prl_steps.specs.Steps.{seen_steps}

-- how far the bottom of a flow's pane is from the top, by that of the pane before
abbrev pub bottom_of : ℕ → FlowView → ℕ
bottom_of above flow = above + BETWEEN + height_of flow.ty

-- the line of a flow in its pane: of the steps that are seen
abbrev pub plot_text : Scale → ℕ → ℕ → FlowView → List ℕ
plot_text scale bottom colour flow =
    path_text scale (pane_of flow.ty bottom (seen_steps scale flow.samples)) flow.ty colour (seen_steps scale flow.samples)

-- the lines of flows, each in its pane, from this one on
abbrev pub plots_text : Scale → ℕ → ℕ → List FlowView → List ℕ
plots_text scale above colour [] = []
plots_text scale above colour (flow ∷ flows) =
    plot_text scale (bottom_of above flow) colour flow ++ plots_text scale (bottom_of above flow) (colour + 1) flows

-- the picture has the line of each flow once, in order
abbrev pub ArePlotsOf : Scale → List FlowView → List ℕ → Type 0
ArePlotsOf scale flows text =
    (below above : List ℕ) × (text ≡ below ++ plots_text scale 0 0 flows ++ above)
