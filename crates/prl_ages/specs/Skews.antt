-- How far apart in time two sensors' values are that one job uses.
use Rattle.std.specs.Prelude.{◌≡◌, ◌+◌, ◌-◌, ◌<◌, ◌≤◌, ℕ, List, []}
use Rattle.prl_base.specs.declared.numbers.TaskNo.{TaskNo}
use Rattle.prl_plan.specs.declared.graphs.TaskGraph.{TaskGraph}
use Rattle.prl_plan.specs.declared.limits.TheConstants.{MAX_JOBS}
use Rattle.prl_ages.specs.Reaching.{Reaches, IsFreshest}
use Rattle.prl_ages.specs.Ages.{released}
use Rattle.prl_ages.specs.declared.skews.Skew.{Skew}
use Rattle.prl_ages.specs.declared.skews.SkewVerdict.{SkewVerdict}
use Rattle.prl_ages.specs.declared.skews.SkewVerdict.TheVariants as verdicts

-- the difference of two dates
abbrev pub apart : ℕ → ℕ → ℕ
apart x y = (x - y) + (y - x)

-- instance m of sensor s and instance l of sensor r are the latest that reach job k of actuator a
pub record MeetAt (graph : TaskGraph) (s r a m l k : ℕ) : Type 0 where
  pub first : IsFreshest graph [] s m a k
  pub second : IsFreshest graph [] r l a k

abbrev pub skew_of : TaskGraph → ℕ → ℕ → ℕ → ℕ → ℕ
skew_of graph s r m l = apart (released graph s m) (released graph r l)

-- the greatest skew: of all jobs that both sensors reach none has a greater one, and this job has it
pub record IsGreatestSkew (graph : TaskGraph) (s r a : ℕ) (skew : Skew) : Type 0 where
  pub above : (k m l : ℕ) → MeetAt graph s r a m l k → skew_of graph s r m l ≤ skew.ticks
  pub meet : MeetAt graph s r a skew.first skew.second skew.job
  pub ticks : skew.ticks ≡ skew_of graph s r skew.first skew.second

abbrev pub IsSkewVerdict : TaskGraph → ℕ → ℕ → ℕ → SkewVerdict → Type 0
IsSkewVerdict graph s r a verdicts.Apart = (k m l : ℕ) → MeetAt graph s r a m l k → ⊥
IsSkewVerdict graph s r a (verdicts.Greatest skew) = IsGreatestSkew graph s r a skew
IsSkewVerdict graph s r a (verdicts.TooMany jobs) = MAX_JOBS < jobs
