-- Buffer cells: which instances of an edge are used, how long each of them lives, and how many cells fit them in turn.
use Rattle.std.specs.Prelude.{◌≡◌, ◌+◌, ◌*◌, ◌/◌, ◌%◌, ◌==◌, ◌<◌, ◌≤◌, ℕ, zero, suc, ℤ, pos, ◌≤ℤ◌, List, [], length, take, sum, Option, Some, None, slice_get, slice_index_or, slice_index, if◌then◌else◌}
use Rattle.prl_plan.specs.declared.graphs.Edge.{Edge}
use Rattle.prl_plan.specs.declared.graphs.TaskGraph.{TaskGraph}
use Rattle.prl_plan.specs.declared.graphs.Producer.{Producer}
use Rattle.prl_plan.specs.declared.graphs.Producer.TheVariants as producers
use Rattle.prl_plan.specs.declared.walks.Operand.TheVariants as operands
use Rattle.prl_plan.specs.declared.tables.Window.{Window}
use Rattle.prl_plan.specs.declared.tables.Used.{Used}
use Rattle.prl_plan.specs.Operands.{operand_of}
use Rattle.prl_plan.specs.Dates.{Family, encoded_release, encoded_deadline}

-- job n of the consumer reads instance m
abbrev pub Reads : Edge → ℕ → ℕ → Type 0
Reads edge n m = operand_of edge n ≡ operands.From m

-- some job reads instance m
abbrev pub IsUsed : Edge → ℕ → Type 0
IsUsed edge m = (n : ℕ) × Reads edge n m

-- instance k in the order of the used ones: the differences repeat
abbrev pub used_at : Used → ℕ → ℕ
used_at used k = used.first + k / length used.gaps * sum used.gaps + sum (take (k % length used.gaps) used.gaps)

-- the instances so enumerated rise, each is used, and they are all that are
pub record EnumeratesUsed (edge : Edge) (used : Used) : Type 0 where
  pub rising : (k : ℕ) → used_at used k < used_at used (k + 1)
  pub each : (k : ℕ) → IsUsed edge (used_at used k)
  pub all : (m : ℕ) → IsUsed edge m → (k : ℕ) × (used_at used k ≡ m)

-- the life of instance m is over by date t: no reader has a later encoded deadline
abbrev pub IsOverBy : Edge → Family → ℕ → ℤ → Type 0
IsOverBy edge deadline m t = (n : ℕ) → Reads edge n m → deadline edge.to.0 (pos n) ≤ℤ t

-- So many cells fit, taken in turn: a used instance is over when the one that takes its cell next is released by its
-- producer, the task i.
abbrev pub Fits : Edge → ℕ → Family → Family → Used → ℕ → Type 0
Fits edge i release deadline used cells =
    (k : ℕ) → IsOverBy edge deadline (used_at used k) (release i (pos (used_at used (k + cells))))

-- at least one cell, as many as fit, and no fewer
pub record IsLeastCount (edge : Edge) (i : ℕ) (release deadline : Family) (used : Used) (cells : ℕ) : Type 0 where
  pub some : 1 ≤ cells
  pub fits : Fits edge i release deadline used cells
  pub least : (fewer : ℕ) → 1 ≤ fewer → Fits edge i release deadline used fewer → cells ≤ fewer

-- the cells of an edge: a constant has none
abbrev pub HasCells : Edge → Producer → Family → Family → ℕ → ℕ → ℕ → Used → Type 0
HasCells edge (producers.Constant value) release deadline before base count used =
    (base ≡ 0) × (count ≡ 0) × (used.first ≡ 0) × (used.gaps ≡ [])
HasCells edge (producers.Port task out) release deadline before base count used =
    (base ≡ before) × EnumeratesUsed edge used × IsLeastCount edge task.0 release deadline used count

-- stands where there is no edge
abbrev pub no_used : Used
no_used = record { first = 0; gaps = [] }

-- each edge has its least number of cells, numbered edge after edge
pub record AreLeastCells (graph : TaskGraph) (windows : List (List Window)) (bases counts : List ℕ) (used : List Used) : Type 0 where
  pub lengths : (length bases ≡ length graph.edges) × (length counts ≡ length graph.edges) × (length used ≡ length graph.edges)
  pub cells : (e : ℕ) (edge : Edge) → slice_get graph.edges e ≡ Some edge →
      HasCells edge edge.from (encoded_release graph windows) (encoded_deadline graph windows)
      (sum (take e counts)) (slice_index bases e) (slice_index counts e) (slice_index_or used e no_used)

-- the place of instance m among the first ones that are used, if it is one of them
abbrev pub place_up_to : Used → ℕ → ℕ → Option ℕ
place_up_to used m zero = None
place_up_to used m (suc k) = if used_at used k == m then Some k else place_up_to used m k

-- the place of instance m among the used ones, if it is one: at most m, since they rise; where there are none, there is none
abbrev pub place_of : Used → ℕ → Option ℕ
place_of used m = if length used.gaps == 0 then None else place_up_to used m (m + 1)
