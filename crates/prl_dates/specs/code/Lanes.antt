-- Links: for each job of a hyperperiod and each task with an edge to its task, the greatest job of that task that precedes.
use Rattle.std.specs.Prelude.{◌≡◌, ◌+◌, ◌<◌, ◌^◌, ℕ, ℤ, pos, ◌+ℤ◌, ◌≤ℤ◌, List, length, Some, slice_get, slice_index_or}
use Rattle.prl_plan.specs.declared.graphs.Edge.{Edge}
use Rattle.prl_plan.specs.declared.graphs.TaskGraph.{TaskGraph}
use Rattle.prl_plan.specs.Dates.{place_in}
use Rattle.prl_plan.specs.Jobs.{task_at, release_of}
use Rattle.prl_plan.specs.Precedence.{preceding, ComesFrom}
use Rattle.prl_dates.specs.declared.lanes.Link.{Link}
use Rattle.prl_dates.specs.declared.lanes.Lane.{Lane}
use Rattle.prl_dates.specs.Faults.{jobs_of}
use Rattle.prl_dates.specs.code.Indices.{jobs_before, index_of}

-- the edge is one from task i to task j
pub record Joins (graph : TaskGraph) (i j : ℕ) (edge : Edge) : Type 0 where
  pub stands : (e : ℕ) × (slice_get graph.edges e ≡ Some edge)
  pub from : ComesFrom edge.from i
  pub to : edge.to.0 ≡ j

-- job m of task i is the greatest that precedes job n of task j along an edge
pub record IsGreatestBefore (graph : TaskGraph) (i j : ℕ) (n m : ℤ) : Type 0 where
  pub attained : (edge : Edge) × Joins graph i j edge × (preceding edge.ops n ≡ m)
  pub above : (edge : Edge) → Joins graph i j edge → preceding edge.ops n ≤ℤ m

abbrev pub no_link : Link
no_link = record { from = 0; gap = 0 }

abbrev pub link_at : Lane → ℕ → Link
link_at lane k = slice_index_or lane.links k no_link

-- link k of the lane stands for this pair of jobs
pub record IsLink (graph : TaskGraph) (lane : Lane) (k : ℕ) (n m : ℤ) : Type 0 where
  pub place : place_in n (jobs_of graph lane.to.0) ≡ k
  pub greatest : IsGreatestBefore graph lane.from.0 lane.to.0 n m
  pub index : index_of graph lane.from.0 m ≡ (link_at lane k).from
  pub gap : release_of (task_at graph lane.to.0) n ≡ release_of (task_at graph lane.from.0) m +ℤ pos (link_at lane k).gap

-- the link from job m of task i to job n of task j
pub record IsLinkOf (graph : TaskGraph) (i j : ℕ) (n m : ℤ) (link : Link) : Type 0 where
  pub index : index_of graph i m ≡ link.from
  pub gap : release_of (task_at graph j) n ≡ release_of (task_at graph i) m +ℤ pos link.gap
  pub small : link.gap < 2 ^ 63 + 2 ^ 62

-- the lane has the links from one task to another, for each job of a hyperperiod
pub record IsLane (graph : TaskGraph) (lane : Lane) : Type 0 where
  pub from : lane.from.0 < length graph.tasks
  pub to : lane.to.0 < length graph.tasks
  pub first : lane.first ≡ jobs_before graph lane.to.0
  pub long : length lane.links ≡ jobs_of graph lane.to.0
  pub links : (k : ℕ) → k < jobs_of graph lane.to.0 → (m : ℤ) × IsLink graph lane k (pos k) m
  pub small : (k : ℕ) → (link_at lane k).gap < 2 ^ 63 + 2 ^ 62

-- each item is a lane
abbrev pub AreEachLane : TaskGraph → List Lane → Type 0
AreEachLane graph lanes = (l : ℕ) (lane : Lane) → slice_get lanes l ≡ Some lane → IsLane graph lane

-- some lane is from task i to task j
abbrev pub IsJoined : List Lane → ℕ → ℕ → Type 0
IsJoined lanes i j = (l : ℕ) × (lane : Lane) × (slice_get lanes l ≡ Some lane) × (lane.from.0 ≡ i) × (lane.to.0 ≡ j)

-- edge e leads from task i to task j
pub record JoinsAt (graph : TaskGraph) (i j e : ℕ) : Type 0 where
  pub inside : e < length graph.edges
  pub joins : (edge : Edge) → slice_get graph.edges e ≡ Some edge → ComesFrom edge.from i × (edge.to.0 ≡ j)

-- for each job of task j in a hyperperiod, the greatest number that precedes along the first `count` edges
pub record AreGreatest (graph : TaskGraph) (i j count : ℕ) (numbers : List ℤ) : Type 0 where
  pub long : length numbers ≡ jobs_of graph j
  pub attained : (n : ℕ) → n < jobs_of graph j → (edge : Edge) × Joins graph i j edge × (preceding edge.ops (pos n) ≡ slice_index_or numbers n (pos 0))
  pub above : (n : ℕ) → n < jobs_of graph j → (e : ℕ) (edge : Edge) → e < count → slice_get graph.edges e ≡ Some edge → ComesFrom edge.from i → edge.to.0 ≡ j →
      preceding edge.ops (pos n) ≤ℤ slice_index_or numbers n (pos 0)

-- there is a lane for each two tasks that one of the first `count` edges joins
pub record AreLanesOf (graph : TaskGraph) (count : ℕ) (lanes : List Lane) : Type 0 where
  pub each : (l : ℕ) (lane : Lane) → slice_get lanes l ≡ Some lane → IsLane graph lane
  pub all : (i j e : ℕ) (edge : Edge) → e < count → slice_get graph.edges e ≡ Some edge → ComesFrom edge.from i → edge.to.0 ≡ j → IsJoined lanes i j

-- there is a lane for each two tasks that an edge joins
pub record AreLanes (graph : TaskGraph) (lanes : List Lane) : Type 0 where
  pub each : (l : ℕ) (lane : Lane) → slice_get lanes l ≡ Some lane → IsLane graph lane
  pub all : (i j : ℕ) (edge : Edge) → Joins graph i j edge → IsJoined lanes i j
