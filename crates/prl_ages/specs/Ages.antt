-- How old a value is: from the release of a sensor's job, before which it is not sampled, to a deadline of the actuator, after
-- which it counts no longer.
use Rattle.std.specs.Prelude.{◌≡◌, ◌+◌, ◌-◌, ◌*◌, ◌<◌, ◌≤◌, ℕ, List}
use Rattle.prl_base.specs.declared.numbers.TaskNo.{TaskNo}
use Rattle.prl_plan.specs.declared.graphs.TaskGraph.{TaskGraph}
use Rattle.prl_plan.specs.Vocabulary.{task_at}
use Rattle.prl_ages.specs.Reaching.{IsFreshest}
use Rattle.prl_ages.specs.declared.ages.Until.{Until}
use Rattle.prl_ages.specs.declared.ages.Until.TheVariants as untils

-- when job n of task i is released, in ticks, and by when it is to have ended
abbrev pub released : TaskGraph → ℕ → ℕ → ℕ
released graph i n = (task_at graph i).clock.start + n * (task_at graph i).clock.period

abbrev pub due_by : TaskGraph → ℕ → ℕ → ℕ
due_by graph i n = released graph i n + (task_at graph i).due

-- how many jobs later the value of a job counts no longer
abbrev pub jobs_later : Until → ℕ
jobs_later untils.Used = 0
jobs_later untils.Replaced = 1

-- How old instance m of sensor s is when the value that job k of actuator a makes of it counts no longer: when that job is
-- due, or when the next one is.
abbrev pub age_of : TaskGraph → ℕ → ℕ → ℕ → Until → ℕ → ℕ
age_of graph s m a until k = due_by graph a (k + jobs_later until) - released graph s m

-- The worst age: of all jobs of actuator a that an instance of sensor s reaches, each taken with the latest that does, none
-- uses an older one, and one uses one as old.
pub record IsWorstAge (graph : TaskGraph) (chain : List TaskNo) (s a : ℕ) (until : Until) (ticks : ℕ) : Type 0 where
  pub above : (k m : ℕ) → IsFreshest graph chain s m a k → age_of graph s m a until k ≤ ticks
  pub attained : (k : ℕ) × (m : ℕ) × IsFreshest graph chain s m a k × (ticks ≡ age_of graph s m a until k)

-- the best age: none of all these jobs uses a newer one, and one uses one as new
pub record IsBestAge (graph : TaskGraph) (chain : List TaskNo) (s a ticks : ℕ) : Type 0 where
  pub below : (k m : ℕ) → IsFreshest graph chain s m a k → ticks ≤ age_of graph s m a untils.Used k
  pub attained : (k : ℕ) × (m : ℕ) × IsFreshest graph chain s m a k × (ticks ≡ age_of graph s m a untils.Used k)

-- The settled age, the worst that comes again and again: from some job on none is older, and after each job one is as old.
pub record IsSettledAge (graph : TaskGraph) (chain : List TaskNo) (s a ticks : ℕ) : Type 0 where
  pub above : (from : ℕ) × ((k m : ℕ) → from ≤ k → IsFreshest graph chain s m a k → age_of graph s m a untils.Used k ≤ ticks)
  pub again : (from : ℕ) → (k : ℕ) × (m : ℕ) × (from ≤ k) × IsFreshest graph chain s m a k × (ticks ≡ age_of graph s m a untils.Used k)
