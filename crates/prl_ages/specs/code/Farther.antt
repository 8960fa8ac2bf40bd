-- The greatest skew among some jobs.
use Rattle.std.specs.Prelude.{◌≡◌, ◌<◌, ◌≤◌, nat_lt, ℕ, Option, Some, None, if◌then◌else◌}
use Rattle.prl_plan.specs.declared.graphs.TaskGraph.{TaskGraph}
use Rattle.prl_ages.specs.Skews.{MeetAt, skew_of}
use Rattle.prl_ages.specs.declared.skews.Skew.{Skew}

abbrev pub farther : Option Skew → Option Skew → Option Skew
farther None skew = skew
farther (Some first) None = Some first
farther (Some first) (Some second) = if nat_lt first.ticks second.ticks then Some second else Some first

-- the skew at job k, and none where not both sensors reach it
abbrev pub IsSkewAt : TaskGraph → ℕ → ℕ → ℕ → ℕ → Option Skew → Type 0
IsSkewAt graph s r a k None = (m l : ℕ) → MeetAt graph s r a m l k → ⊥
IsSkewAt graph s r a k (Some skew) =
    (skew.job ≡ k) × MeetAt graph s r a skew.first skew.second k × (skew.ticks ≡ skew_of graph s r skew.first skew.second)

-- the one skew is not above the other, if there is one
abbrev pub IsNotFarther : Option Skew → Option Skew → Type 0
IsNotFarther None most = Unit {0}
IsNotFarther (Some skew) None = ⊥
IsNotFarther (Some skew) (Some most) = skew.ticks ≤ most.ticks

abbrev pub IsOneOf : TaskGraph → ℕ → ℕ → ℕ → ℕ → Option Skew → Type 0
IsOneOf graph s r a jobs None = Unit {0}
IsOneOf graph s r a jobs (Some skew) = (skew.job < jobs) × IsSkewAt graph s r a skew.job (Some skew)

pub record IsGreatestBelow (graph : TaskGraph) (s r a jobs : ℕ) (most : Option Skew) : Type 0 where
  pub each : (k : ℕ) → k < jobs → (skew : Option Skew) × IsSkewAt graph s r a k skew × IsNotFarther skew most
  pub attained : IsOneOf graph s r a jobs most
