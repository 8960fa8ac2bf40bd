-- Whether one processor serves.
use Rattle.std.specs.Prelude.{◌≡◌, ℕ}
use Rattle.prl_plan.specs.Runs.{RunConstants}
use Rattle.prl_edf.specs.declared.analysis.Verdict.{Verdict}
use Rattle.prl_edf.specs.declared.analysis.Verdict.TheVariants as verdicts
use Rattle.prl_overlaps.specs.Demand.{demand, IsOverloaded, IsFirstOverload}
use Rattle.prl_edf.specs.Outcomes.{IsFeasibleRun}

-- no interval is overloaded, and this is the plain run; or the overloaded interval that is told, with its demand
abbrev pub IsVerdict : RunConstants → (ℕ → ℕ → ℕ) → Verdict → Type 0
IsVerdict c cost (verdicts.Run timed) = ((a b : ℕ) → IsOverloaded c cost a b → ⊥) × IsFeasibleRun c cost timed
IsVerdict c cost (verdicts.Overload from to asked) = IsFirstOverload c cost from to × (asked ≡ demand c cost from to)
