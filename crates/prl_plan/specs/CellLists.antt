-- Buffer cells as they are kept.
use Rattle.std.specs.Prelude.{◌≡◌, ◌+◌, ◌<◌, ◌≤◌, ◌^◌, ◌⊎◌, ◌↔◌, ℕ, List, [], Option, Some, None, length, take, sum, slice_index, slice_index_or}
use Rattle.prl_plan.specs.declared.tables.Used.{Used}
use Rattle.prl_plan.specs.declared.graphs.Edge.{Edge}
use Rattle.prl_plan.specs.Cells.{used_at, EnumeratesUsed, no_used}
use Rattle.prl_plan.specs.declared.graphs.TaskGraph.{TaskGraph}
use Rattle.prl_plan.specs.declared.tables.Window.{Window}
use Rattle.prl_plan.specs.declared.words.Word.{Word}
use Rattle.prl_plan.specs.Plans.{PlanView, AreShortGaps}

-- by edge, its first cell, its number of cells, and its used instances
pub record CellLists : Type 0 where
  pub bases : List ℕ
  pub counts : List ℕ
  pub used : List Used

-- one of each an edge, and the used instances by their shortest gaps
pub record AreCellLists (bases counts : List ℕ) (used : List Used) : Type 0 where
  pub counts_long : length counts ≡ length bases
  pub used_long : length used ≡ length bases
  pub short : AreShortGaps used

-- the sums of no gap, of the first, of the first two and so on
pub record ListsSums (gaps sums : List ℕ) : Type 0 where
  pub long : length sums ≡ length gaps + 1
  pub each : (j : ℕ) → j ≤ length gaps → slice_index sums j ≡ sum (take j gaps)

-- where sums are kept, they are those of the gaps of each edge
abbrev pub AreSums : List Used → Option (List (List ℕ)) → Type 0
AreSums used None = Unit {0}
AreSums used (Some sums) =
    (length sums ≡ length used) × ((e : ℕ) → e < length used → ListsSums (slice_index_or used e no_used).gaps (slice_index_or sums e []))

-- there are no gaps, or they enumerate the used instances of some edge, and their sum fits
pub record IsOrdered (used : Used) : Type 0 where
  pub order : (length used.gaps ≡ 0) ⊎ ((edge : Edge) × EnumeratesUsed edge used)
  pub small : sum used.gaps < 2 ^ 64

-- so many used instances have a number below m; there are none without gaps
pub record CountsUsed (used : Used) (m count : ℕ) : Type 0 where
  pub none : length used.gaps ≡ 0 → count ≡ 0
  pub below : 1 ≤ length used.gaps → (k : ℕ) → (k < count) ↔ (used_at used k < m)

-- the plan of a graph, its words, its windows and its cells
abbrev pub plan_of : TaskGraph → List Word → List (List Window) → CellLists → PlanView
plan_of graph words windows cells =
    record { graph = graph; words = words; windows = windows; bases = cells.bases; counts = cells.counts; used = cells.used }
