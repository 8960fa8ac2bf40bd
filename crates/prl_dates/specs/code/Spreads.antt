-- Tables of the dates of a plan, raised across processors and within them.
use Rattle.std.specs.Prelude.{◌≡◌, ◌+◌, ◌<◌, ◌≤◌, ◌⊎◌, ℕ, ℤ, pos, ◌+ℤ◌, ◌-ℤ◌, ◌≤ℤ◌, List, length, Some, slice_get, slice_index}
use Rattle.prl_plan.specs.declared.graphs.TaskGraph.{TaskGraph}
use Rattle.prl_plan.specs.Dates.{Family, window_at}
use Rattle.prl_plan.specs.Graphs.{jobs_in_hyperperiod}
use Rattle.prl_plan.specs.Jobs.{task_at, deadline_of}
use Rattle.prl_plan.specs.Plans.{PlanView}
use Rattle.prl_plan.specs.Spread.{AreTogether, AreLeastSpreadReleases}
use Rattle.prl_dates.specs.declared.lanes.Lane.{Lane}
use Rattle.prl_dates.specs.declared.spreads.Bound.{Bound}
use Rattle.prl_dates.specs.declared.spreads.Bound.TheVariants as bounds
use Rattle.prl_dates.specs.Faults.{jobs_of}
use Rattle.prl_dates.specs.code.Indices.{jobs_before, dates_of}
use Rattle.prl_dates.specs.code.Lanes.{IsLink}
use Rattle.prl_dates.specs.code.Tables.{Leaves, Meets, LeaveAll}

-- the earliest end of job n of task i, or its deadline, in ticks after the release of its clock
abbrev pub bound_of : PlanView → Bound → ℕ → ℕ → ℕ
bound_of plan bounds.End i n = (window_at plan.windows i (pos n)).lead + (task_at plan.graph i).wcet
bound_of plan bounds.Deadline i n = (window_at plan.windows i (pos n)).tail

-- the table has these for the jobs of the first `count` tasks, and for the first `some` jobs of the next
pub record IsTablePart (plan : PlanView) (bound : Bound) (count some : ℕ) (table : List ℕ) : Type 0 where
  pub long : length table ≡ jobs_before plan.graph count + some
  pub each : (i n : ℕ) → i < count → n < jobs_of plan.graph i → slice_index table (jobs_before plan.graph i + n) ≡ bound_of plan bound i n
  pub next : (n : ℕ) → n < some → slice_index table (jobs_before plan.graph count + n) ≡ bound_of plan bound count n

abbrev pub IsTableOf : PlanView → Bound → List ℕ → Type 0
IsTableOf plan bound table = IsTablePart plan bound (length plan.graph.tasks) 0 table

-- the dates after the first `count` lanes across processors asked for theirs
pub record AreRaisedAcross (graph : TaskGraph) (lanes : List Lane) (processors : List ℕ) (count : ℕ) (now old new : List ℕ) : Type 0 where
  pub long : length new ≡ length old
  pub up : (q : ℕ) → slice_index old q ≤ slice_index new q
  pub asks : (l : ℕ) (lane : Lane) → l < count → slice_get lanes l ≡ Some lane → (AreTogether processors lane.from.0 lane.to.0 → ⊥) → (k : ℕ) → k < length lane.links →
      Leaves lane (task_at graph lane.to.0).wcet now new k
  pub only : (q : ℕ) → (slice_index new q ≡ slice_index old q)
      ⊎ ((l : ℕ) × (lane : Lane) × (slice_get lanes l ≡ Some lane) × (AreTogether processors lane.from.0 lane.to.0 → ⊥) × (k : ℕ) × (k < length lane.links) × (q ≡ lane.first + k)
      × Meets lane (task_at graph lane.to.0).wcet now new k)

-- the plan's ends after all lanes across processors asked for theirs
pub record AreEndsAcross (plan : PlanView) (lanes : List Lane) (processors deadlines ends : List ℕ) : Type 0 where
  pub base : List ℕ
  pub of_base : IsTableOf plan bounds.End base
  pub raised : AreRaisedAcross plan.graph lanes processors (length lanes) deadlines base ends

-- the one family is nowhere above the other
abbrev pub IsBelow : TaskGraph → Family → Family → Type 0
IsBelow graph date other = (i : ℕ) (m : ℤ) → i < length graph.tasks → date i m ≤ℤ other i m

-- along each link of the lanes the family of ends leaves time for the WCET
abbrev pub KeepsLanes : TaskGraph → List Lane → Family → Type 0
KeepsLanes graph lanes date = (l : ℕ) (lane : Lane) → slice_get lanes l ≡ Some lane → (k : ℕ) (n m : ℤ) → IsLink graph lane k n m →
    (date lane.from.0 m +ℤ pos (task_at graph lane.to.0).wcet) ≤ℤ date lane.to.0 n

-- some family of ends keeps the lanes, is not below the table, and is within the deadlines
pub record HasCeiling (graph : TaskGraph) (lanes : List Lane) (table : List ℕ) : Type 0 where
  pub ceiling : Family
  pub keeps : KeepsLanes graph lanes ceiling
  pub above : IsBelow graph (dates_of graph table) ceiling
  pub within : IsBelow graph ceiling (λ i m. deadline_of (task_at graph i) m)

-- ends between the old ones and the least from those on that leave time along the lanes
pub record IsRising (graph : TaskGraph) (lanes : List Lane) (old now : List ℕ) : Type 0 where
  pub long : length now ≡ length old
  pub up : (q : ℕ) → slice_index old q ≤ slice_index now q
  pub ceiling : HasCeiling graph lanes now
  pub least : (date : Family) → KeepsLanes graph lanes date → IsBelow graph (dates_of graph old) date → IsBelow graph (dates_of graph now) date

-- the least ends from the old ones on that leave time along the lanes
pub record IsLeastAbove (graph : TaskGraph) (lanes : List Lane) (old new : List ℕ) : Type 0 where
  pub long : length new ≡ length old
  pub up : (q : ℕ) → slice_index old q ≤ slice_index new q
  pub leaves : LeaveAll graph lanes (length lanes) new
  pub least : (date : Family) → KeepsLanes graph lanes date → IsBelow graph (dates_of graph old) date → IsBelow graph (dates_of graph new) date

-- the ends of the least spread releases
pub record AreSpreadEnds (plan : PlanView) (processors : List ℕ) (ends : List ℕ) : Type 0 where
  pub long : length ends ≡ jobs_in_hyperperiod plan.graph
  pub releases : AreLeastSpreadReleases plan.graph plan.windows processors (λ i m. dates_of plan.graph ends i m -ℤ pos (task_at plan.graph i).wcet)
