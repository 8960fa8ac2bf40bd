-- What is answered of the ages of a task's values at an actuator.
use Rattle.std.specs.Prelude.{◌≡◌, ◌+◌, ◌<◌, ◌≤◌, ℕ, List, length, slice_index_or}
use Rattle.prl_base.specs.declared.numbers.TaskNo.{TaskNo}
use Rattle.prl_plan.specs.declared.graphs.TaskGraph.{TaskGraph}
use Rattle.prl_plan.specs.declared.limits.TheConstants.{MAX_JOBS}
use Rattle.prl_ages.specs.Reaching.{Reaches, IsFreshest, jobs_of}
use Rattle.prl_ages.specs.Ages.{IsWorstAge, IsBestAge, IsSettledAge, age_of}
use Rattle.prl_ages.specs.declared.ages.Age.{Age}
use Rattle.prl_ages.specs.declared.ages.Until.{Until}
use Rattle.prl_ages.specs.declared.ages.Until.TheVariants as untils
use Rattle.prl_ages.specs.declared.verdicts.AgeBounds.{AgeBounds}
use Rattle.prl_ages.specs.declared.verdicts.Verdict.{Verdict}
use Rattle.prl_ages.specs.declared.verdicts.Verdict.TheVariants as verdicts

-- the age is the worst of all, and is that of its job and its instance
pub record IsWorst (graph : TaskGraph) (chain : List TaskNo) (s a : ℕ) (until : Until) (age : Age) : Type 0 where
  pub worst : IsWorstAge graph chain s a until age.ticks
  pub fresh : IsFreshest graph chain s age.instance a age.job
  pub ticks : age.ticks ≡ age_of graph s age.instance a until age.job

-- the worst ages of all jobs, the settled age and the best one
pub record AreAges (graph : TaskGraph) (chain : List TaskNo) (s a : ℕ) (ages : AgeBounds) : Type 0 where
  pub used : IsWorst graph chain s a untils.Used ages.used
  pub replaced : IsWorst graph chain s a untils.Replaced ages.replaced
  pub settled : IsSettledAge graph chain s a ages.settled
  pub best : IsBestAge graph chain s a ages.best

-- no instance reaches job k, a later job is reached, and a hyperperiod after job k there are as many jobs as are looked at
pub record IsLate (graph : TaskGraph) (chain : List TaskNo) (s a k : ℕ) : Type 0 where
  pub not_yet : (m : ℕ) → Reaches graph chain s m a k → ⊥
  pub later : (m : ℕ) × (l : ℕ) × (k < l) × Reaches graph chain s m a l
  pub many : MAX_JOBS ≤ k + jobs_of graph a

abbrev pub IsVerdict : TaskGraph → List TaskNo → ℕ → ℕ → Verdict → Type 0
IsVerdict graph chain s a verdicts.Never = (m k : ℕ) → Reaches graph chain s m a k → ⊥
IsVerdict graph chain s a (verdicts.Late k) = IsLate graph chain s a k
IsVerdict graph chain s a (verdicts.Known ages) = AreAges graph chain s a ages

abbrev pub verdict_at : List Verdict → ℕ → Verdict
verdict_at list s = slice_index_or list s verdicts.Never

-- by task, what is answered of its values at the actuator
pub record AreVerdicts (graph : TaskGraph) (chain : List TaskNo) (a : ℕ) (list : List Verdict) : Type 0 where
  pub long : length list ≡ length graph.tasks
  pub each : (s : ℕ) → s < length graph.tasks → IsVerdict graph chain s a (verdict_at list s)
