-- Plans: a task graph with its words, its encoded dates and its cells, and what its jobs do in a horizon.
use Rattle.std.specs.Prelude.{◌≡◌, length, ◌+◌, ◌*◌, ◌-◌, ◌⊎◌, ◌%◌, ◌==◌, ◌<◌, ◌≤◌, ◌^◌, ◌++◌, ℕ, ℤ, pos, ◌+ℤ◌, ◌≤ℤ◌, nat_abs, sum, take, List, [], ◌∷◌, Option, is_some, IsSome, unwrap_or, slice_index, slice_index_or, if◌then◌else◌}
use Rattle.prl_base.specs.declared.values.Ty.TheVariants as types
use Rattle.prl_base.specs.declared.values.Value.TheVariants as values
use Rattle.prl_plan.specs.declared.events.Action.{Action}
use Rattle.prl_plan.specs.declared.events.Action.TheVariants as actions
use Rattle.prl_plan.specs.declared.graphs.Edge.{Edge}
use Rattle.prl_plan.specs.declared.graphs.TaskGraph.{TaskGraph}
use Rattle.prl_plan.specs.declared.graphs.Producer.{Producer}
use Rattle.prl_plan.specs.declared.graphs.Producer.TheVariants as producers
use Rattle.prl_plan.specs.declared.walks.Operand.{Operand}
use Rattle.prl_plan.specs.declared.walks.Operand.TheVariants as operands
use Rattle.prl_plan.specs.declared.tables.Window.{Window}
use Rattle.prl_plan.specs.declared.tables.Used.{Used}
use Rattle.prl_plan.specs.declared.words.Word.{Word}
use Rattle.prl_plan.specs.declared.limits.TheConstants.{MAX_CELLS}
use Rattle.prl_plan.specs.Graphs.{IsWellFormed}
use Rattle.prl_plan.specs.Jobs.{task_at}
use Rattle.prl_plan.specs.Operands.{operand_of}
use Rattle.prl_plan.specs.Precedence.{ComesFrom}
use Rattle.prl_plan.specs.Dates.{AreEncodedDates, encoded_release, encoded_deadline}
use Rattle.prl_plan.specs.Cells.{AreLeastCells, place_of, no_used}
use Rattle.prl_plan.specs.Repeats.{IsShortestRepeat}
use Rattle.prl_plan.specs.Words.{AreWords}

-- what is known of a plan
pub record PlanView : Type 0 where
  pub graph : TaskGraph
  -- by edge, its dependency word
  pub words : List Word
  -- by task, the windows of its jobs, which repeat from job 0 on
  pub windows : List (List Window)
  -- by edge, its first cell, its number of cells, and its used instances
  pub bases : List ℕ
  pub counts : List ℕ
  pub used : List Used

-- Between its encoded dates each job has room for its WCET: so no chain of jobs, each preceding the next, is longer than
-- the time from the release of its first job to the deadline of its last.
pub record HaveRoom (graph : TaskGraph) (windows : List (List Window)) : Type 0 where
  pub room : (i : ℕ) (m : ℤ) → i < length graph.tasks →
      (encoded_release graph windows i m +ℤ pos (task_at graph i).wcet) ≤ℤ encoded_deadline graph windows i m

-- each task's list of windows is the shortest that repeats as it does
abbrev pub AreShortWindows : List (List Window) → Type 0
AreShortWindows windows = (i : ℕ) → i < length windows → IsShortestRepeat (slice_index_or windows i [])

-- each edge's list of gaps between used instances is the shortest that repeats as it does
abbrev pub AreShortGaps : List Used → Type 0
AreShortGaps used = (e : ℕ) → e < length used → IsShortestRepeat (slice_index_or used e no_used).gaps

-- A plan is a well-formed graph with its words, its dates, which leave each job room, and its cells, within the limits. Its
-- lists that repeat are the shortest ones, so the graph determines it.
pub record IsPlan (plan : PlanView) : Type 0 where
  pub graph : IsWellFormed plan.graph
  pub words : AreWords plan.graph plan.words
  pub dates : AreEncodedDates plan.graph plan.windows
  pub short_windows : AreShortWindows plan.windows
  pub room : HaveRoom plan.graph plan.windows
  pub cells : AreLeastCells plan.graph plan.windows plan.bases plan.counts plan.used
  pub short_gaps : AreShortGaps plan.used
  pub few_cells : sum plan.counts ≤ MAX_CELLS

-- the encoded release of job n of task i, where n is at least 0
abbrev pub release_at : PlanView → ℕ → ℕ → ℕ
release_at plan i n = nat_abs (encoded_release plan.graph plan.windows i (pos n))

abbrev pub deadline_at : PlanView → ℕ → ℕ → ℕ
deadline_at plan i n = nat_abs (encoded_deadline plan.graph plan.windows i (pos n))

-- stands where there is no edge
abbrev pub no_edge : Edge
no_edge = record { from = producers.Constant (values.Int (pos 0)); to = record { 0 = 0 }; port = 0; ops = []; period = 1; ty = types.Int }

abbrev pub edge_at : TaskGraph → ℕ → Edge
edge_at graph e = slice_index_or graph.edges e no_edge

-- where instance m of edge e stands among the used instances of that edge, if it is one
abbrev pub place_on : PlanView → ℕ → ℕ → Option ℕ
place_on plan e m = place_of (slice_index_or plan.used e no_used) m

-- the cell of a used instance: the cells of an edge in turn
abbrev pub cell_of : PlanView → ℕ → ℕ → ℕ
cell_of plan e m = slice_index plan.bases e + unwrap_or (place_on plan e m) 0 % slice_index plan.counts e

-- the two halves of a cell
abbrev pub low : ℕ → ℕ
low cell = 2 * cell

abbrev pub high : ℕ → ℕ
high cell = 2 * cell + 1

-- a constant is read at once, an instance by its low half and then by its high half
abbrev pub reading : PlanView → ℕ → Edge → Operand → List Action
reading plan e edge (operands.Const c) = actions.ReadConst edge.port c ∷ []
reading plan e edge (operands.From m) =
    actions.Read edge.port (record { 0 = e }) m (record { 0 = low (cell_of plan e m) })
    ∷ actions.Read edge.port (record { 0 = e }) m (record { 0 = high (cell_of plan e m) }) ∷ []

-- the reads of job n of task i, over these edges, of which the first is edge e
abbrev pub reads_of : PlanView → ℕ → ℕ → ℕ → List Edge → List Action
reads_of plan i n e [] = []
reads_of plan i n e (edge ∷ edges) =
    (if edge.to.0 == i then reading plan e edge (operand_of edge n) else []) ++ reads_of plan i n (e + 1) edges

-- the writes of an instance to an edge, by its low half and then by its high half
abbrev pub both_writes : PlanView → ℕ → ℕ → List Action
both_writes plan e n =
    actions.Write (record { 0 = e }) n (record { 0 = low (cell_of plan e n) })
    ∷ actions.Write (record { 0 = e }) n (record { 0 = high (cell_of plan e n) }) ∷ []

-- what a job writes to an edge from its own task: its instance, where that is used
abbrev pub writing : PlanView → ℕ → ℕ → ℕ → Producer → List Action
writing plan i n e (producers.Constant value) = []
writing plan i n e (producers.Port task out) =
    if task.0 == i then (if is_some (place_on plan e n) then both_writes plan e n else []) else []

abbrev pub writes_of : PlanView → ℕ → ℕ → ℕ → List Edge → List Action
writes_of plan i n e [] = []
writes_of plan i n e (edge ∷ edges) = writing plan i n e edge.from ++ writes_of plan i n (e + 1) edges

-- the actions of job n of task i: its reads in the order of ports, its writes in the order of edges, and its end
abbrev pub actions_of : PlanView → ℕ → ℕ → List Action
actions_of plan i n = reads_of plan i n 0 plan.graph.edges ++ writes_of plan i n 0 plan.graph.edges ++ actions.End ∷ []

-- an operand is complete with a constant, or with the high half of an instance
abbrev pub completes : Action → ℕ
completes (actions.ReadConst port value) = 1
completes (actions.Read port edge m slot) = slot.0 % 2
completes (actions.Write edge m slot) = 0
completes actions.End = 0

-- how many operands these actions complete
abbrev pub operands_in : List Action → ℕ
operands_in [] = 0
operands_in (action ∷ list) = completes action + operands_in list

-- how many operands the first `place` of these actions complete
abbrev pub operands_before : List Action → ℕ → ℕ
operands_before list place = operands_in (take place list)

-- the action is at this port
abbrev pub IsAtPort : ℕ → Action → Type 0
IsAtPort q (actions.ReadConst port value) = port ≡ q
IsAtPort q (actions.Read port edge m slot) = port ≡ q
IsAtPort q (actions.Write edge m slot) = ⊥
IsAtPort q actions.End = ⊥

-- where the reads of edge e stand among the actions of job n of task i: after those of the edges before it
abbrev pub reads_before : PlanView → ℕ → ℕ → ℕ → ℕ
reads_before plan i n e = length (reads_of plan i n 0 (take e plan.graph.edges))

-- the operand has a number that a look-up may tell
abbrev pub IsSmallOperand : Operand → Type 0
IsSmallOperand (operands.Const c) = Unit {0}
IsSmallOperand (operands.From m) = m < 2 ^ 63

-- the edge comes from a task
abbrev pub ComesFromTask : Producer → Type 0
ComesFromTask (producers.Port task out) = Unit {0}
ComesFromTask (producers.Constant value) = ⊥

-- the slot is one of the two halves of the cell
abbrev pub IsHalfOf : ℕ → ℕ → Type 0
IsHalfOf cell slot = (slot ≡ low cell) ⊎ (slot ≡ high cell)

-- the action reads or writes a high half
abbrev pub IsHigh : Action → Type 0
IsHigh (actions.ReadConst port value) = ⊥
IsHigh (actions.Read port edge m slot) = (cell : ℕ) × (slot.0 ≡ high cell)
IsHigh (actions.Write edge m slot) = (cell : ℕ) × (slot.0 ≡ high cell)
IsHigh actions.End = ⊥

-- the same read or write, of the low half
abbrev pub low_of : Action → Action
low_of (actions.ReadConst port value) = actions.ReadConst port value
low_of (actions.Read port edge m slot) = actions.Read port edge m (record { 0 = slot.0 - 1 })
low_of (actions.Write edge m slot) = actions.Write edge m (record { 0 = slot.0 - 1 })
low_of actions.End = actions.End

-- What an action of job n of task i is, by the definitions of operands and cells: a read is at a port of an edge into
-- the task, of the job's operand there; a write is to an edge from the task, of the job's own instance, which is used.
abbrev pub IsActionOf : PlanView → ℕ → ℕ → Action → Type 0
IsActionOf plan i n (actions.ReadConst port value) =
    (e : ℕ) × (e < length plan.graph.edges) × ((edge_at plan.graph e).to.0 ≡ i) × ((edge_at plan.graph e).port ≡ port)
    × (operand_of (edge_at plan.graph e) n ≡ operands.Const value)
IsActionOf plan i n (actions.Read port e m slot) =
    (e.0 < length plan.graph.edges) × ((edge_at plan.graph e.0).to.0 ≡ i) × ((edge_at plan.graph e.0).port ≡ port)
    × (operand_of (edge_at plan.graph e.0) n ≡ operands.From m) × IsHalfOf (cell_of plan e.0 m) slot.0
IsActionOf plan i n (actions.Write e m slot) =
    (e.0 < length plan.graph.edges) × ComesFrom (edge_at plan.graph e.0).from i × (m ≡ n) × IsSome (place_on plan e.0 n)
    × IsHalfOf (cell_of plan e.0 n) slot.0
IsActionOf plan i n actions.End = Unit {0}
