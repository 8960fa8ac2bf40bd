-- Counts of jobs that are still rising towards those that a job needs.
use Rattle.std.specs.Prelude.{◌≡◌, ◌+◌, ◌-◌, ◌<◌, ◌^◌, ℕ, Bool, true, List, length, slice_index, sum_by}
use Rattle.std.specs.Bool.{OnTrue, OnFalse}
use Rattle.prl_base.specs.declared.numbers.TaskNo.{TaskNo}
use Rattle.prl_plan.specs.declared.graphs.TaskGraph.{TaskGraph}
use Rattle.prl_plan.specs.declared.walks.Operand.TheVariants as operands
use Rattle.prl_plan.specs.Vocabulary.{ComesFrom, operand_of, edge_at}
use Rattle.prl_ages.specs.Chains.{is_along}
use Rattle.prl_ages.specs.Reaching.{Reaches}

-- the last job counted of each task reaches job k of task a, which is counted itself
pub record AreFound (graph : TaskGraph) (chain : List TaskNo) (a k : ℕ) (counts : List ℕ) : Type 0 where
  pub long : length counts ≡ length graph.tasks
  pub own : k < slice_index counts a
  pub reached : (t m : ℕ) → slice_index counts t ≡ m + 1 → Reaches graph chain t m a k

-- on edge e the last job counted of the consumer reads job j
pub record LastReads (graph : TaskGraph) (counts : List ℕ) (e j : ℕ) : Type 0 where
  pub last : ℕ
  pub count : slice_index counts (edge_at graph e).to.0 ≡ last + 1
  pub reads : operand_of (edge_at graph e) last ≡ operands.From j

-- what is read on edge e by the last job counted of its consumer is counted, where the edge counts
abbrev pub IsSettledOn : TaskGraph → List TaskNo → List ℕ → ℕ → Type 0
IsSettledOn graph chain counts e = (i j : ℕ) → ComesFrom (edge_at graph e).from i → is_along chain i (edge_at graph e).to.0 ≡ true → LastReads graph counts e j → j < slice_index counts i

-- how far counts of 64 bits may still rise
abbrev pub room : List ℕ → ℕ
room counts = sum_by (λ (c : ℕ). 2 ^ 64 - c) counts

-- After a round over the first e edges: unless a count rose, the counts are as they were, and settled on these edges.
pub record IsUnderWay (graph : TaskGraph) (chain : List TaskNo) (a k : ℕ) (old : List ℕ) (e : ℕ) (counts : List ℕ) (rose : Bool) : Type 0 where
  pub found : AreFound graph chain a k counts
  pub rises : OnTrue rose (room counts < room old)
  pub same : OnFalse rose (counts ≡ old)
  pub settled : OnFalse rose ((before : ℕ) → before < e → IsSettledOn graph chain old before)
