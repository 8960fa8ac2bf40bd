-- The edges that a task's jobs go through, and where a job stands among them.
use Rattle.std.specs.Prelude.{◌≡◌, ◌+◌, ◌==◌, ◌<◌, ◌≤◌, ◌++◌, ℕ, Bool, List, [], ◌∷◌, length, take, slice_index_or, is_some, if◌then◌else◌}
use Rattle.prl_plan.specs.declared.events.Action.{Action}
use Rattle.prl_plan.specs.declared.graphs.Edge.{Edge}
use Rattle.prl_plan.specs.declared.graphs.Producer.{Producer}
use Rattle.prl_plan.specs.declared.graphs.Producer.TheVariants as producers
use Rattle.prl_plan.specs.declared.graphs.TaskGraph.{TaskGraph}
use Rattle.prl_plan.specs.Operands.{operand_of}
use Rattle.prl_plan.specs.Precedence.{ComesFrom}
use Rattle.prl_plan.specs.Plans.{PlanView, edge_at, place_on, reading, both_writes}
use Rattle.prl_track.specs.declared.routes.Access.{Access}
use Rattle.prl_track.specs.declared.routes.Access.TheVariants as accesses
use Rattle.prl_track.specs.declared.routes.Cursor.{Cursor}

-- the edges into task i, of these, of which the first is edge e
abbrev pub ins_from : ℕ → ℕ → List Edge → List Access
ins_from i e [] = []
ins_from i e (edge ∷ edges) = (if edge.to.0 == i then accesses.Reads (record { 0 = e }) ∷ [] else []) ++ ins_from i (e + 1) edges

-- the producer is task i
abbrev pub is_from : ℕ → Producer → Bool
is_from i (producers.Port task out) = task.0 == i
is_from i (producers.Constant value) = Bool.false

abbrev pub outs_from : ℕ → ℕ → List Edge → List Access
outs_from i e [] = []
outs_from i e (edge ∷ edges) = (if is_from i edge.from then accesses.Writes (record { 0 = e }) ∷ [] else []) ++ outs_from i (e + 1) edges

-- the edges that the jobs of task i go through: those into the task, and then those from it
abbrev pub route_of : TaskGraph → ℕ → List Access
route_of graph i = ins_from i 0 graph.edges ++ outs_from i 0 graph.edges

-- what job n does on an edge of its task
abbrev pub on_access : PlanView → ℕ → Access → List Action
on_access plan n (accesses.Reads e) = reading plan e.0 (edge_at plan.graph e.0) (operand_of (edge_at plan.graph e.0) n)
on_access plan n (accesses.Writes e) = if is_some (place_on plan e.0 n) then both_writes plan e.0 n else []

abbrev pub on_route : PlanView → ℕ → List Access → List Action
on_route plan n [] = []
on_route plan n (access ∷ route) = on_access plan n access ++ on_route plan n route

-- the routes of the tasks
pub record AreRoutes (graph : TaskGraph) (routes : List (List Access)) : Type 0 where
  pub tasks : length routes ≡ length graph.tasks
  pub each : (i : ℕ) → i < length graph.tasks → slice_index_or routes i [] ≡ route_of graph i

-- A place of job n of task i: past so many edges of its route, and then so many actions.
pub record IsAt (plan : PlanView) (i n place : ℕ) (cursor : Cursor) : Type 0 where
  pub inside : cursor.index ≤ length (route_of plan.graph i)
  pub stands : place ≡ length (on_route plan n (take cursor.index (route_of plan.graph i))) + cursor.rest

-- the edge is of the graph, and of task i
abbrev pub IsAccessOf : TaskGraph → ℕ → Access → Type 0
IsAccessOf graph i (accesses.Reads e) = (e.0 < length graph.edges) × ((edge_at graph e.0).to.0 ≡ i)
IsAccessOf graph i (accesses.Writes e) = (e.0 < length graph.edges) × ComesFrom (edge_at graph e.0).from i
