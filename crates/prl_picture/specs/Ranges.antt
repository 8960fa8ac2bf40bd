-- The range of ticks that is drawn.
use Rattle.std.specs.Prelude.{◌≡◌, ◌+◌, ◌*◌, ◌<◌, ◌≤◌, ◌^◌, ◌⊎◌, ℕ, Bool, true, List, length, min, slice_index}
use Rattle.std.specs.Bool.{OnFalse, OnTrue}
use Rattle.prl_plan.specs.declared.walks.Operand.TheVariants as operands
use Rattle.prl_plan.specs.Jobs.{job_count, task_at}
use Rattle.prl_plan.specs.Operands.{operand_of}
use Rattle.prl_plan.specs.Plans.{PlanView, edge_at}
use Rattle.prl_plan.specs.Precedence.{ComesFrom}
use Rattle.prl_drawing.specs.declared.scales.Scale.{Scale}
use Rattle.prl_shapes.specs.Acts.{is_in}
use Rattle.prl_picture.specs.declared.defaults.TheConstants.{REACH}
use Rattle.prl_picture.specs.declared.ranges.TheConstants.{MAX_UNTIL}

-- the range from its first tick on, up to its last or to an earlier tick, and ticks enough for the latter
pub record IsRange (first last : ℕ) (scale : Scale) : Type 0 where
  pub begins : scale.from ≡ first
  pub some : first < scale.until
  pub within : scale.until ≤ last
  pub wide : scale.until ≤ first + scale.span
  pub small : scale.span < 2 ^ 33

-- job n of task i is released by its clock from the first tick on and before the last
pub record IsReleasedIn (plan : PlanView) (from until i n : ℕ) : Type 0 where
  pub first : job_count (task_at plan.graph i) from ≤ n
  pub last : n < job_count (task_at plan.graph i) until

-- on edge e, job n of the consumer reads what job m of task i gives, and both are released in the range
pub record IsArrow (plan : PlanView) (from until e i n m : ℕ) : Type 0 where
  pub producer : ComesFrom (edge_at plan.graph e).from i
  pub reads : operand_of (edge_at plan.graph e) n ≡ operands.From m
  pub before : IsReleasedIn plan from until i m
  pub after : IsReleasedIn plan from until (edge_at plan.graph e).to.0 n

-- job n reads on the edge what a job of task i gives in no range that ends before the tick
abbrev pub IsShortest : PlanView → ℕ → ℕ → ℕ → ℕ → ℕ → Type 0
IsShortest plan from e i n tick = (until m : ℕ) → until < tick → IsArrow plan from until e i n m → ⊥

-- the tick is within a limit, and in each range up to it or a later one job n reads on the edge what a job of task i gives, and in
-- no shorter one
abbrev pub IsEndOfReading : PlanView → ℕ → ℕ → ℕ → ℕ → ℕ → ℕ → Type 0
IsEndOfReading plan from limit e i n tick =
    (tick ≤ limit) × ((until : ℕ) → tick ≤ until → (m : ℕ) × IsArrow plan from until e i n m) × IsShortest plan from e i n tick

-- the edge has an arrow in the range, from a task that has a row to one that has a row
pub record HasArrow (plan : PlanView) (rows : List ℕ) (from until e : ℕ) : Type 0 where
  pub i : ℕ
  pub n : ℕ
  pub m : ℕ
  pub inside : i < length plan.graph.tasks
  pub giver : is_in rows i ≡ true
  pub reader : is_in rows (edge_at plan.graph e).to.0 ≡ true
  pub arrow : IsArrow plan from until e i n m

-- the edge is drawn, from a task that has a row to one that has a row; the range up to the tick is the shortest that has this arrow
-- of it, the first of those up to a limit
pub record EndsFirst (plan : PlanView) (rows : List ℕ) (from limit e tick : ℕ) : Type 0 where
  pub i : ℕ
  pub n : ℕ
  pub m : ℕ
  pub giver : is_in rows i ≡ true
  pub reader : is_in rows (edge_at plan.graph e).to.0 ≡ true
  pub within : tick ≤ limit
  pub arrow : IsArrow plan from tick e i n m
  pub first : (k p : ℕ) → k < n → IsArrow plan from limit e i k p → ⊥
  pub shortest : IsShortest plan from e i n tick

-- each range up to the tick or a later one has an arrow of the edge, and the tick is no later than its first one needs
abbrev pub IsEndOf : PlanView → List ℕ → ℕ → ℕ → ℕ → ℕ → Type 0
IsEndOf plan rows from limit e tick =
    ((until : ℕ) → tick ≤ until → HasArrow plan rows from until e) × EndsFirst plan rows from limit e tick

-- how far arrows are looked for
abbrev pub reach : PlanView → ℕ → ℕ
reach plan from = min (from + REACH * plan.graph.hyper) MAX_UNTIL

-- each edge that has an arrow as far as arrows are looked for has one in the range
abbrev pub ShowsArrows : PlanView → List ℕ → ℕ → ℕ → Type 0
ShowsArrows plan rows from until =
    (e : ℕ) → e < length plan.graph.edges → HasArrow plan rows from (reach plan from) e → HasArrow plan rows from until e

-- a hyperperiod from the first tick on
abbrev pub hyperperiod_end : PlanView → ℕ → ℕ
hyperperiod_end plan from = min (from + plan.graph.hyper) MAX_UNTIL

-- the first arrow of some edge that is drawn, of those as far as arrows are looked for, needs the range
abbrev pub IsForArrow : PlanView → List ℕ → ℕ → ℕ → Type 0
IsForArrow plan rows from until = (e : ℕ) × (e < length plan.graph.edges) × EndsFirst plan rows from (reach plan from) e until

-- the range has the first hyperperiod of the task of each row, as far as may be asked for
abbrev pub ShowsClasses : PlanView → List ℕ → ℕ → Type 0
ShowsClasses plan rows until =
    (r : ℕ) → r < length rows → min ((task_at plan.graph (slice_index rows r)).clock.start + plan.graph.hyper) MAX_UNTIL ≤ until

-- the range is no longer than the task of some row needs, from its first release on, for the jobs of a hyperperiod
abbrev pub IsForTable : PlanView → List ℕ → ℕ → Type 0
IsForTable plan rows until = (r : ℕ) × (r < length rows) × (until ≤ (task_at plan.graph (slice_index rows r)).clock.start + plan.graph.hyper)

-- The end of a range where the words do not say it: the range has a hyperperiod at least, and, but for a table, shows each precedence.
-- It is no longer than that needs: it is a hyperperiod, or ends with the first arrow of some edge that is drawn. Beside a table it
-- shows the first hyperperiod of each task, and it is a hyperperiod, or ends with that of some task.
pub record IsDefaultEnd (plan : PlanView) (rows : List ℕ) (table : Bool) (from until : ℕ) : Type 0 where
  pub long : hyperperiod_end plan from ≤ until
  pub small : until ≤ MAX_UNTIL
  pub arrows : OnFalse table (ShowsArrows plan rows from until)
  pub needed : OnFalse table ((until ≡ hyperperiod_end plan from) ⊎ IsForArrow plan rows from until)
  pub classes : OnTrue table (ShowsClasses plan rows until)
  pub tabled : OnTrue table ((until ≡ hyperperiod_end plan from) ⊎ IsForTable plan rows until)
