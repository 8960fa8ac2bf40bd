-- How long it takes at worst until a change at a sensor shows at an actuator.
use Rattle.std.specs.Prelude.{◌≡◌, ◌-◌, ◌<◌, ◌≤◌, ℕ, List}
use Rattle.prl_base.specs.declared.numbers.TaskNo.{TaskNo}
use Rattle.prl_plan.specs.declared.graphs.TaskGraph.{TaskGraph}
use Rattle.prl_ages.specs.Reaching.{Reaches}
use Rattle.prl_ages.specs.Ages.{released, due_by}

-- Job k of actuator a is the first to show a change that comes just after instance m of sensor s was sampled: an instance after
-- m reaches it, and none reaches a job before it. Some job before it shows the sensor already.
pub record ShowsChange (graph : TaskGraph) (chain : List TaskNo) (s m a k : ℕ) : Type 0 where
  pub shown : (l : ℕ) × (m < l) × Reaches graph chain s l a k
  pub first : (j l : ℕ) → j < k → Reaches graph chain s l a j → l ≤ m
  pub before : (j : ℕ) × (l : ℕ) × (j < k) × Reaches graph chain s l a j

-- from the release of the instance that just misses the change to the deadline of the job that shows it
abbrev pub reaction_of : TaskGraph → ℕ → ℕ → ℕ → ℕ → ℕ
reaction_of graph s m a k = due_by graph a k - released graph s m

-- the worst reaction: no change takes longer to show, and one takes as long
pub record IsWorstReaction (graph : TaskGraph) (chain : List TaskNo) (s a ticks : ℕ) : Type 0 where
  pub above : (m k : ℕ) → ShowsChange graph chain s m a k → reaction_of graph s m a k ≤ ticks
  pub attained : (m : ℕ) × (k : ℕ) × ShowsChange graph chain s m a k × (ticks ≡ reaction_of graph s m a k)
