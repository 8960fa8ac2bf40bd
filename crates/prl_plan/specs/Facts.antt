-- What holds of the jobs of every plan, as an executive needs it.
use Rattle.std.specs.Prelude.{◌≡◌, ◌+◌, ◌<◌, ◌≤◌, ◌^◌, ◌⊎◌, ℕ, length}
use Rattle.prl_base.specs.declared.numbers.EdgeNo.{EdgeNo}
use Rattle.prl_plan.specs.declared.events.Action.TheVariants as actions
use Rattle.prl_plan.specs.Plans.{IsHigh, low_of}
use Rattle.prl_plan.specs.Runs.{RunConstants, action_at}

-- job n of task i is a horizon job
pub record IsJob (c : RunConstants) (i n : ℕ) : Type 0 where
  pub task : i < c.tasks
  pub job : n < c.jobs i

-- at this place, job n of task i reads instance m from the cell
pub record ReadsAt (c : RunConstants) (i n place m cell : ℕ) : Type 0 where
  pub job : IsJob c i n
  pub action : (port : ℕ) × (edge : EdgeNo) × (action_at c i n place ≡ actions.Read port edge m (record { 0 = cell }))

-- at this place, job n of task i writes instance m to the cell
pub record WritesAt (c : RunConstants) (i n place m cell : ℕ) : Type 0 where
  pub job : IsJob c i n
  pub action : (edge : EdgeNo) × (action_at c i n place ≡ actions.Write edge m (record { 0 = cell }))

-- horizon job n of task i writes instance m to the cell, and both its encoded dates are earlier than those of job k of task j
pub record Provides (c : RunConstants) (m cell j k i n place : ℕ) : Type 0 where
  pub writes : WritesAt c i n place m cell
  pub release : c.release i n < c.release j k
  pub deadline : c.deadline i n < c.deadline j k

pub record HasPlanFacts (c : RunConstants) : Type 0 where
  -- tasks are numbered by 32 bits
  pub few : c.tasks < 2 ^ 32
  -- each encoded deadline is at least 1 and within the end
  pub positive : (i n : ℕ) → IsJob c i n → 1 ≤ c.deadline i n
  pub within : (i n : ℕ) → IsJob c i n → c.deadline i n ≤ c.end
  -- a job is due after it is released, and a later job of its task is not released before it is due
  pub window : (i n : ℕ) → IsJob c i n → c.release i n < c.deadline i n
  pub apart : (i m n : ℕ) → IsJob c i n → m < n → c.deadline i m ≤ c.release i n
  -- a list of actions has fewer than 2^32
  pub short : (i n : ℕ) → IsJob c i n → length (c.actions i n) < 2 ^ 32
  -- a job's end is its last action
  pub last : (i n place later : ℕ) → IsJob c i n → action_at c i n place ≡ actions.End → place < later → action_at c i n later ≡ actions.End
  -- cells are in range, and a job writes its own instance
  pub read_cell : (i n place m cell : ℕ) → ReadsAt c i n place m cell → cell < c.slots
  pub write_cell : (i n place m cell : ℕ) → WritesAt c i n place m cell → cell < c.slots
  pub own : (i n place m cell : ℕ) → WritesAt c i n place m cell → m ≡ n
  -- one task writes to a cell, and each of its jobs at one place
  pub writer : (i n place m j k other l cell : ℕ) → WritesAt c i n place m cell → WritesAt c j k other l cell → i ≡ j
  pub once : (i n place m other l cell : ℕ) → WritesAt c i n place m cell → WritesAt c i n other l cell → place ≡ other
  -- a cell is of one edge
  pub edge : (j k place m i n written l cell : ℕ) (reads : ReadsAt c j k place m cell) (writes : WritesAt c i n written l cell) →
      reads.action.1 ≡ writes.action.0
  -- before a high half stands the low half of the same read or write
  pub paired : (i n place : ℕ) → IsJob c i n → IsHigh (action_at c i n place) →
      (before : ℕ) × (place ≡ before + 1) × (action_at c i n before ≡ low_of (action_at c i n place))
  -- what is read, a job writes that comes earlier
  pub provided : (j k place m cell : ℕ) → ReadsAt c j k place m cell →
      (i : ℕ) × (n : ℕ) × (written : ℕ) × Provides c m cell j k i n written
  -- on the reader's processor, or due before the reader is released
  pub across : (j k place m i n written cell : ℕ) → ReadsAt c j k place m cell → WritesAt c i n written m cell →
      (c.processor i ≡ c.processor j) ⊎ (c.deadline i n ≤ c.release j k)
  -- the life of an instance is over before a later one is written to its cell
  pub over : (j k place m i n written l cell : ℕ) → ReadsAt c j k place m cell → WritesAt c i n written l cell → m < l →
      c.deadline j k ≤ c.release i n
