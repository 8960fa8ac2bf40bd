-- The ages of the jobs of an actuator from one job on and before another.
use Rattle.std.specs.Prelude.{◌≡◌, ◌<◌, ◌≤◌, ℕ, List, Option, Some, None}
use Rattle.prl_base.specs.declared.numbers.TaskNo.{TaskNo}
use Rattle.prl_plan.specs.declared.graphs.TaskGraph.{TaskGraph}
use Rattle.prl_ages.specs.Reaching.{Reaches, IsFreshest}
use Rattle.prl_ages.specs.Ages.{age_of}
use Rattle.prl_ages.specs.declared.ages.Age.{Age}
use Rattle.prl_ages.specs.declared.ages.Until.{Until}

-- the age at job k, and none where no instance reaches it
abbrev pub IsAgeAt : TaskGraph → List TaskNo → ℕ → ℕ → Until → ℕ → Option Age → Type 0
IsAgeAt graph chain s a until k None = (m : ℕ) → Reaches graph chain s m a k → ⊥
IsAgeAt graph chain s a until k (Some age) =
    (age.job ≡ k) × IsFreshest graph chain s age.instance a k × (age.ticks ≡ age_of graph s age.instance a until k)

-- the one age is not above the other, if there is one
abbrev pub IsNotOlder : Option Age → Option Age → Type 0
IsNotOlder None worst = Unit {0}
IsNotOlder (Some age) None = ⊥
IsNotOlder (Some age) (Some worst) = age.ticks ≤ worst.ticks

-- the one age is not below the other, if there is one
abbrev pub IsNotNewer : Option Age → Option Age → Type 0
IsNotNewer None best = Unit {0}
IsNotNewer (Some age) None = ⊥
IsNotNewer (Some age) (Some best) = best.ticks ≤ age.ticks

-- an age is one of a job of the span
abbrev pub IsOfSpan : TaskGraph → List TaskNo → ℕ → ℕ → Until → ℕ → ℕ → Option Age → Type 0
IsOfSpan graph chain s a until from to None = Unit {0}
IsOfSpan graph chain s a until from to (Some age) =
    (from ≤ age.job) × (age.job < to) × IsAgeAt graph chain s a until age.job (Some age)

-- the worst age of the span, and none where no instance reaches one of its jobs
pub record IsWorstOf (graph : TaskGraph) (chain : List TaskNo) (s a : ℕ) (until : Until) (from to : ℕ) (worst : Option Age) : Type 0 where
  pub each : (k : ℕ) → from ≤ k → k < to → (age : Option Age) × IsAgeAt graph chain s a until k age × IsNotOlder age worst
  pub attained : IsOfSpan graph chain s a until from to worst

-- the best age of the span
pub record IsBestOf (graph : TaskGraph) (chain : List TaskNo) (s a : ℕ) (until : Until) (from to : ℕ) (best : Option Age) : Type 0 where
  pub each : (k : ℕ) → from ≤ k → k < to → (age : Option Age) × IsAgeAt graph chain s a until k age × IsNotNewer age best
  pub attained : IsOfSpan graph chain s a until from to best
