-- Why a table is not good. Entry k stands in line k + 3 of its text.
use Rattle.std.specs.Prelude.{◌≡◌, ◌+◌, ◌<◌, ◌⊎◌, ℕ, List, Some, length, slice_get}
use Rattle.prl_plan.specs.Plans.{PlanView, edge_at}
use Rattle.prl_overlaps.specs.FirstClashes.{IsFirstClash}
use Rattle.prl_overlaps.specs.Overlaps.{AreApart}
use Rattle.prl_overlaps.specs.declared.entries.Entry.{Entry}
use Rattle.prl_tables.specs.declared.reading.TableFault.{TableFault}
use Rattle.prl_tables.specs.declared.reading.TableFault.TheVariants as faults
use Rattle.prl_tables.specs.Tables.{classes, IsPiece, ArePieces, IsWhole, AreWhole, KeepsOrder}

-- the line's entry is no piece of its job, and those before it are
pub record IsFirstNoPiece (plan : PlanView) (entries : List Entry) (line : ℕ) : Type 0 where
  pub k : ℕ
  pub entry : Entry
  pub stands : slice_get entries k ≡ Some entry
  pub in_line : line ≡ k + 3
  pub no_piece : IsPiece plan entry → ⊥
  pub before : (j : ℕ) (other : Entry) → j < k → slice_get entries j ≡ Some other → IsPiece plan other

-- (j, d) comes before (i, c)
abbrev pub IsEarlier : ℕ → ℕ → ℕ → ℕ → Type 0
IsEarlier j d i c = (j < i) ⊎ ((j ≡ i) × (d < c))

-- the class has not the units of its WCET, and those before it have
pub record IsFirstNotWhole (plan : PlanView) (entries : List Entry) (i c : ℕ) : Type 0 where
  pub task : i < length plan.graph.tasks
  pub class : c < classes plan.graph i
  pub not_whole : IsWhole plan entries i c → ⊥
  pub before : (j d : ℕ) → j < length plan.graph.tasks → d < classes plan.graph j → IsEarlier j d i c → IsWhole plan entries j d

-- on the edge the class of the consumer does not keep the order, and what comes before does
pub record IsFirstDisorder (plan : PlanView) (entries : List Entry) (e c : ℕ) : Type 0 where
  pub edge : e < length plan.graph.edges
  pub class : c < classes plan.graph (edge_at plan.graph e).to.0
  pub disorder : KeepsOrder plan entries e c → ⊥
  pub before : (f d : ℕ) → f < length plan.graph.edges → d < classes plan.graph (edge_at plan.graph f).to.0 → IsEarlier f d e c →
      KeepsOrder plan entries f d

-- what a check of a table of the plan tells, each where what comes before it holds; want of memory is free
abbrev pub IsFault : PlanView → List Entry → TableFault → Type 0
IsFault plan entries (faults.Syntax line) = ⊥
IsFault plan entries (faults.Piece line) = IsFirstNoPiece plan entries line
IsFault plan entries (faults.Units task job) = ArePieces plan entries × IsFirstNotWhole plan entries task.0 job
IsFault plan entries (faults.Clash first second) =
    ArePieces plan entries × AreWhole plan entries × IsFirstClash plan.graph.hyper entries first second
IsFault plan entries (faults.Order edge job) =
    ArePieces plan entries × AreWhole plan entries × AreApart plan.graph.hyper entries × IsFirstDisorder plan entries edge.0 job
IsFault plan entries faults.Memory = Unit {0}
