-- The default end of a range is within it.
use Rattle.prl_base.proofs.Standard.{◌<◌, ◌≤◌, ℕ, List, [], ◌∷◌, arith, min, max}
use Rattle.prl_steps.specs.Flows.{FlowView}
use Rattle.prl_plot.specs.Asked.{default_end, held_until}
use Rattle.prl_plot.specs.declared.words.TheConstants.{MAX_UNTIL}

greater_within : (a b : ℕ) → b ≤ MAX_UNTIL → max (min a MAX_UNTIL) b ≤ MAX_UNTIL
greater_within a b h = omega (arith, h)

pub end_within : (flows : List FlowView) (from : ℕ) → from < MAX_UNTIL → default_end flows from ≤ MAX_UNTIL
end_within [] from h = omega (arith, h)
end_within (flow ∷ flows) from h = greater_within (held_until flow.samples) (default_end flows from) (end_within flows from h)
