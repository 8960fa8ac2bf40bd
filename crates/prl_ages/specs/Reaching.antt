-- Which instances of a sensor reach a job: along the operands, from the job that reads back to those that give. Where a chain
-- of tasks is named, along its steps alone.
use Rattle.std.specs.Prelude.{◌≡◌, ◌/◌, ◌≤◌, ℕ, true, List, Some, slice_get}
use Rattle.prl_base.specs.declared.numbers.TaskNo.{TaskNo}
use Rattle.prl_plan.specs.declared.graphs.Edge.{Edge}
use Rattle.prl_plan.specs.declared.graphs.TaskGraph.{TaskGraph}
use Rattle.prl_plan.specs.declared.walks.Operand.TheVariants as operands
use Rattle.prl_plan.specs.Vocabulary.{ComesFrom, operand_of, task_at}
use Rattle.prl_ages.specs.Chains.{is_along}

-- on some edge of the graph that counts, job n of task t reads what job j of task i gave
pub record Takes (graph : TaskGraph) (chain : List TaskNo) (t n i j : ℕ) : Type 0 where
  pub number : ℕ
  pub edge : Edge
  pub at : slice_get graph.edges number ≡ Some edge
  pub to : edge.to.0 ≡ t
  pub from : ComesFrom edge.from i
  pub along : is_along chain i t ≡ true
  pub reads : operand_of edge n ≡ operands.From j

-- Instance m of task s reaches job n of task t: it is that job's own, or it reaches a job whose value this job reads. The
-- constants that stand before the first instances reach nothing.
pub data Reaches (graph : TaskGraph) (chain : List TaskNo) (s m : ℕ) : ℕ → ℕ → Type 0 where
  itself : (t n : ℕ) → t ≡ s → n ≡ m → Reaches graph chain s m t n
  through : (t n i j : ℕ) → Takes graph chain t n i j → Reaches graph chain s m i j → Reaches graph chain s m t n

-- instance m is the latest of task s that reaches job n of task t
pub record IsFreshest (graph : TaskGraph) (chain : List TaskNo) (s m t n : ℕ) : Type 0 where
  pub reaches : Reaches graph chain s m t n
  pub latest : (l : ℕ) → Reaches graph chain s l t n → l ≤ m

-- how many jobs a task has in a hyperperiod
abbrev pub jobs_of : TaskGraph → ℕ → ℕ
jobs_of graph i = graph.hyper / (task_at graph i).clock.period
