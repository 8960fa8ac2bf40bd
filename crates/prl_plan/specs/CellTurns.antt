-- Used instances and cells, as far as one hyperperiod shows them.
use Rattle.std.specs.Prelude.{◌≡◌, ◌+◌, ◌/◌, ◌<◌, ◌≤◌, ℕ, ℤ, pos, ◌≤ℤ◌, List, length, take, sum, slice_index}
use Rattle.prl_base.specs.declared.operators.Op.{Op}
use Rattle.prl_plan.specs.declared.graphs.Edge.{Edge}
use Rattle.prl_plan.specs.declared.graphs.TaskGraph.{TaskGraph}
use Rattle.prl_plan.specs.declared.tables.Used.{Used}
use Rattle.prl_plan.specs.Dates.{Family}
use Rattle.prl_plan.specs.Precedence.{preceding}
use Rattle.prl_plan.specs.Cells.{used_at}

-- job m of the producer precedes some job, of any whole number
abbrev pub IsAsked : List Op → ℤ → Type 0
IsAsked ops m = (n : ℤ) × (preceding ops n ≡ m)

-- instance `first + x` is asked for
abbrev pub IsAskedFrom : List Op → ℕ → ℕ → Type 0
IsAskedFrom ops first x = IsAsked ops (pos (first + x))

-- the differences lead from 0 through all numbers of R up to `upto`, and through no other
pub record ListsGaps (R : ℕ → Type 0) (upto : ℕ) (gaps : List ℕ) : Type 0 where
  pub positive : (j : ℕ) → j < length gaps → 1 ≤ slice_index gaps j
  pub each : (j : ℕ) → j ≤ length gaps → R (sum (take j gaps))
  pub all : (x : ℕ) → x ≤ upto → R x → (j : ℕ) × (j ≤ length gaps) × (sum (take j gaps) ≡ x)
  pub within : sum gaps ≤ upto

-- The cells fit, by the used instances of one hyperperiod, each with all jobs that it precedes, of any whole number.
abbrev pub FitsInPeriod : Edge → ℕ → Family → Family → Used → ℕ → Type 0
FitsInPeriod edge i release deadline used cells =
    (k : ℕ) → k < length used.gaps → (n : ℤ) → preceding edge.ops n ≡ pos (used_at used k) →
    deadline edge.to.0 n ≤ℤ release i (pos (used_at used (k + cells)))

-- how many jobs of the producer there are in a hyperperiod
abbrev pub span_of : TaskGraph → Edge → ℕ
span_of graph edge = graph.hyper / edge.period
