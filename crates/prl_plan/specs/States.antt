-- What holds in the states that free and gated lists reach.
use Rattle.std.specs.Prelude.{◌≡◌, ◌+◌, ◌<◌, ◌≤◌, ◌⊎◌, ℕ, length, slice_index}
use Rattle.prl_plan.specs.Runs.{RunConstants, ExecState}
use Rattle.prl_plan.specs.Rules.{IsUnfinished, HasJob, ActsReleased, first_unfinished}
use Rattle.prl_plan.specs.Facts.{IsJob, ReadsAt, WritesAt}

-- the action at this place of job n of task i is done
abbrev pub IsDone : ExecState → ℕ → ℕ → ℕ → Type 0
IsDone s i n place = (n < slice_index s.ended i) ⊎ ((n ≡ slice_index s.ended i) × (place < slice_index s.places i))

-- it is not
abbrev pub IsAhead : ExecState → ℕ → ℕ → ℕ → Type 0
IsAhead s i n place = (slice_index s.ended i < n) ⊎ ((n ≡ slice_index s.ended i) × (slice_index s.places i ≤ place))

-- the slot holds the instance that job n of task i wrote to it
pub record IsOrigin (c : RunConstants) (s : ExecState) (slot : ℕ) : Type 0 where
  pub task : ℕ
  pub job : ℕ
  pub place : ℕ
  pub instance : ℕ
  pub writes : WritesAt c task job place instance slot
  pub done : IsDone s task job place
  pub holds : slice_index s.tags slot ≡ instance + 1

-- what holds in every state that a free list reaches
pub record IsTagged (c : RunConstants) (s : ExecState) : Type 0 where
  pub ended : length s.ended ≡ c.tasks
  pub places : length s.places ≡ c.tasks
  pub tags : length s.tags ≡ c.slots
  -- at most the jobs of its horizon have ended of each task
  pub counted : (i : ℕ) → i < c.tasks → slice_index s.ended i ≤ c.jobs i
  -- a slot holds no earlier instance than one that was written to it
  pub written : (i n place m slot : ℕ) → WritesAt c i n place m slot → IsDone s i n place → m + 1 ≤ slice_index s.tags slot
  -- nor a later one than what is yet to be written to it
  pub ahead : (i n place m slot : ℕ) → WritesAt c i n place m slot → IsAhead s i n place → slice_index s.tags slot ≤ m
  -- and what it holds was written to it
  pub origin : (slot : ℕ) → (slice_index s.tags slot ≡ 0) ⊎ IsOrigin c s slot

-- what holds in every state that a gated list reaches
pub record IsSound (c : RunConstants) (s : ExecState) : Type 0 where
  pub tagged : IsTagged c s
  -- at its deadline a horizon job has ended
  pub kept : (i n : ℕ) → IsJob c i n → c.deadline i n ≤ s.now → n < slice_index s.ended i
  -- a slot holds no later instance than one that an unfinished reader has to read
  pub held : (j k place m slot : ℕ) → ReadsAt c j k place m slot → IsUnfinished c s j k → slice_index s.tags slot ≤ m + 1

-- task i has a released unfinished job, and no task has one that is released earlier
pub record IsLeastReleased (c : RunConstants) (s : ExecState) (i : ℕ) : Type 0 where
  pub job : HasJob c s i
  pub released : ActsReleased c s i
  pub least : (j : ℕ) → HasJob c s j → ActsReleased c s j → c.release i (first_unfinished s i) ≤ c.release j (first_unfinished s j)
