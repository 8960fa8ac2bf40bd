-- Values over ticks.
use Rattle.std.specs.Prelude.{ℕ, Bool, List, [], ◌∷◌, max, min}
use Rattle.std.specs.List.{filter}
use Rattle.prl_drawing.specs.declared.scales.Scale.{Scale}
use Rattle.prl_drawing.specs.Scales.{is_seen}
use Rattle.prl_steps.specs.declared.samples.Sample.{Sample}
use Rattle.prl_steps.specs.declared.samples.Step.{Step}

-- the first date of these samples; the end where there is none
abbrev pub next_date : ℕ → List Sample → ℕ
next_date end [] = end
next_date end (sample ∷ samples) = sample.date

-- each value holds from its date until the next date, the last one until the end
abbrev pub steps_of : ℕ → List Sample → List Step
steps_of end [] = []
steps_of end (sample ∷ samples) =
    record { from = sample.date; until = next_date end samples; level = sample.level } ∷ steps_of end samples

-- the value holds at some tick that is drawn
abbrev pub is_step_seen : Scale → Step → Bool
is_step_seen scale step = is_seen scale step.from step.until

-- the steps that are drawn: those of the samples that hold at a tick of the scale
abbrev pub seen_steps : Scale → List Sample → List Step
seen_steps scale samples = filter (is_step_seen scale) (steps_of scale.until samples)

-- the least and the greatest level of some steps
abbrev pub least_of : ℕ → List Step → ℕ
least_of least [] = least
least_of least (step ∷ steps) = least_of (min least step.level) steps

abbrev pub greatest_of : ℕ → List Step → ℕ
greatest_of greatest [] = greatest
greatest_of greatest (step ∷ steps) = greatest_of (max greatest step.level) steps
