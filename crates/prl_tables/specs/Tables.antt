-- Static cyclic tables: which are good, and when each job has its last unit.
use Rattle.std.specs.Prelude.{◌≡◌, ◌+◌, ◌*◌, ◌-◌, ◌/◌, ◌%◌, ◌<◌, ◌≤◌, ◌==◌, ◌&&◌, ℕ, ℤ, pos, ◌+ℤ◌, ◌*ℤ◌, ◌≤ℤ◌, Bool, List, [], ◌∷◌, Some, length, max, slice_get, if◌then◌else◌}
use Rattle.prl_plan.specs.declared.graphs.TaskGraph.{TaskGraph}
use Rattle.prl_plan.specs.Jobs.{task_at}
use Rattle.prl_plan.specs.Plans.{PlanView, edge_at, release_at, deadline_at}
use Rattle.prl_plan.specs.Precedence.{preceding, ComesFrom}
use Rattle.prl_overlaps.specs.Overlaps.{Clash}
use Rattle.prl_overlaps.specs.declared.entries.Entry.{Entry}
use Rattle.prl_tables.specs.Unrolled.{Placing}

-- how many jobs of a task there are in a hyperperiod: its classes
abbrev pub classes : TaskGraph → ℕ → ℕ
classes graph i = graph.hyper / (task_at graph i).clock.period

-- the entry is of class c of task i
abbrev pub is_of : ℕ → ℕ → Entry → Bool
is_of i c entry = (entry.task.0 == i) && (entry.job == c)

-- how many units the class has
abbrev pub units_of : List Entry → ℕ → ℕ → ℕ
units_of [] i c = 0
units_of (entry ∷ entries) i c = (if is_of i c entry then entry.units else 0) + units_of entries i c

-- where the last unit of the class ends
abbrev pub end_of : List Entry → ℕ → ℕ → ℕ
end_of [] i c = 0
end_of (entry ∷ entries) i c = if is_of i c entry then max (entry.at + entry.units) (end_of entries i c) else end_of entries i c

-- the tick of the last unit of each job: that of its class, moved by the hyperperiods before it
abbrev pub last_unit : TaskGraph → List Entry → Placing
last_unit graph entries i n = end_of entries i (n % classes graph i) - 1 + n / classes graph i * graph.hyper

-- the entry is of a class and has units, and lies in the window of its job
pub record IsPiece (plan : PlanView) (entry : Entry) : Type 0 where
  pub task : entry.task.0 < length plan.graph.tasks
  pub class : entry.job < classes plan.graph entry.task.0
  pub units : 1 ≤ entry.units
  pub from : release_at plan entry.task.0 entry.job ≤ entry.at
  pub to : entry.at + entry.units ≤ deadline_at plan entry.task.0 entry.job

abbrev pub ArePieces : PlanView → List Entry → Type 0
ArePieces plan entries = (k : ℕ) (entry : Entry) → slice_get entries k ≡ Some entry → IsPiece plan entry

-- the class has as many units as its WCET
abbrev pub IsWhole : PlanView → List Entry → ℕ → ℕ → Type 0
IsWhole plan entries i c = units_of entries i c ≡ (task_at plan.graph i).wcet

abbrev pub AreWhole : PlanView → List Entry → Type 0
AreWhole plan entries = (i c : ℕ) → i < length plan.graph.tasks → c < classes plan.graph i → IsWhole plan entries i c

-- On edge e, where class q of the producer, moved by z hyperperiods, precedes class c of the consumer, its units are earlier.
abbrev pub KeepsOrder : PlanView → List Entry → ℕ → ℕ → Type 0
KeepsOrder plan entries e c =
    (i q : ℕ) (z : ℤ) → ComesFrom (edge_at plan.graph e).from i → q < classes plan.graph i →
    preceding (edge_at plan.graph e).ops (pos c) ≡ pos q +ℤ (z *ℤ pos (classes plan.graph i)) →
    (k l : ℕ) (one other : Entry) → slice_get entries k ≡ Some one → slice_get entries l ≡ Some other →
    (one.task.0 ≡ i) × (one.job ≡ q) → (other.task.0 ≡ (edge_at plan.graph e).to.0) × (other.job ≡ c) →
    (pos (one.at + one.units) +ℤ (z *ℤ pos plan.graph.hyper)) ≤ℤ pos other.at

-- Each entry is a piece of its job, each job gets its WCET, no two entries clash, and along each edge the producer's job is over before
-- the consumer's begins.
pub record IsGood (plan : PlanView) (entries : List Entry) : Type 0 where
  pub pieces : ArePieces plan entries
  pub whole : AreWhole plan entries
  pub apart : (k l : ℕ) → Clash plan.graph.hyper entries k l → ⊥
  pub order : (e c : ℕ) → e < length plan.graph.edges → c < classes plan.graph (edge_at plan.graph e).to.0 → KeepsOrder plan entries e c
