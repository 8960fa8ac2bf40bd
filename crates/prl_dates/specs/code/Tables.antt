-- Tables of a hyperperiod: a round over links, and what keeps deadlines.
use Rattle.std.specs.Prelude.{◌≡◌, ◌+◌, ◌<◌, ◌≤◌, ◌⊎◌, ℕ, zero, suc, List, length, Some, slice_get, sum, slice_index}
use Rattle.prl_plan.specs.declared.graphs.TaskGraph.{TaskGraph}
use Rattle.prl_plan.specs.Jobs.{task_at}
use Rattle.prl_dates.specs.declared.lanes.Lane.{Lane}
use Rattle.prl_plan.specs.Graphs.{jobs_in_hyperperiod}
use Rattle.prl_dates.specs.declared.bests.First.{First}
use Rattle.prl_dates.specs.declared.bests.First.TheVariants as firsts
use Rattle.prl_dates.specs.Faults.{jobs_of, IsOfPeriod}
use Rattle.prl_dates.specs.code.Indices.{jobs_before, dates_of}
use Rattle.prl_dates.specs.code.Families.{AreBests, IsAboveDeadlines}
use Rattle.prl_dates.specs.code.Lanes.{link_at}

-- from the date of the job before to that of the job after, link k leaves time for the WCET
abbrev pub Leaves : Lane → ℕ → List ℕ → List ℕ → ℕ → Type 0
Leaves lane wcet before after k = slice_index before (link_at lane k).from + wcet ≤ slice_index after (lane.first + k) + (link_at lane k).gap

-- it leaves just that time
abbrev pub Meets : Lane → ℕ → List ℕ → List ℕ → ℕ → Type 0
Meets lane wcet before after k = slice_index after (lane.first + k) + (link_at lane k).gap ≡ slice_index before (link_at lane k).from + wcet

-- the dates after the first `count` links of a lane asked for theirs
pub record AreRaised (lane : Lane) (wcet count : ℕ) (now old new : List ℕ) : Type 0 where
  pub long : length new ≡ length old
  pub up : (q : ℕ) → slice_index old q ≤ slice_index new q
  pub asks : (k : ℕ) → k < count → Leaves lane wcet now new k
  pub only : (q : ℕ) → (slice_index new q ≡ slice_index old q) ⊎ ((k : ℕ) × (k < count) × (q ≡ lane.first + k) × Meets lane wcet now new k)

-- the dates after the first `count` lanes asked for theirs
pub record AreRound (graph : TaskGraph) (lanes : List Lane) (count : ℕ) (now new : List ℕ) : Type 0 where
  pub long : length new ≡ length now
  pub up : (q : ℕ) → slice_index now q ≤ slice_index new q
  pub asks : (l : ℕ) (lane : Lane) → l < count → slice_get lanes l ≡ Some lane → (k : ℕ) → k < length lane.links →
      Leaves lane (task_at graph lane.to.0).wcet now new k
  pub only : (q : ℕ) → (slice_index new q ≡ slice_index now q)
      ⊎ ((l : ℕ) × (lane : Lane) × (slice_get lanes l ≡ Some lane) × (k : ℕ) × (k < length lane.links) × (q ≡ lane.first + k)
      × Meets lane (task_at graph lane.to.0).wcet now new k)

-- the list has the number
abbrev pub IsListed : List ℕ → ℕ → Type 0
IsListed list q = (x : ℕ) × (slice_get list x ≡ Some q)

-- each number of the list is below the bound
abbrev pub AreBelow : List ℕ → ℕ → Type 0
AreBelow list bound = (x q : ℕ) → slice_get list x ≡ Some q → q < bound

-- links from a job that is not listed ask for no later date
pub record AreSettled (graph : TaskGraph) (lanes : List Lane) (risen now : List ℕ) : Type 0 where
  pub below : AreBelow risen (length now)
  pub others : (l k : ℕ) (lane : Lane) → slice_get lanes l ≡ Some lane → k < length lane.links →
      IsListed risen (link_at lane k).from ⊎ Leaves lane (task_at graph lane.to.0).wcet now now k

-- the list has just the indices at which the tables differ
pub record ListsRisen (now new rises : List ℕ) : Type 0 where
  pub below : AreBelow rises (length now)
  pub rose : (x q : ℕ) → slice_get rises x ≡ Some q → slice_index new q ≡ slice_index now q → ⊥
  pub each : (q : ℕ) → (slice_index new q ≡ slice_index now q) ⊎ IsListed rises q

-- a round after which some links asked for their dates, and the indices that rose so far
pub record AreUnderWay (graph : TaskGraph) (lanes : List Lane) (now next rises : List ℕ) : Type 0 where
  pub long : length next ≡ length now
  pub up : (q : ℕ) → slice_index now q ≤ slice_index next q
  pub only : (q : ℕ) → (slice_index next q ≡ slice_index now q)
      ⊎ ((l : ℕ) × (lane : Lane) × (slice_get lanes l ≡ Some lane) × (k : ℕ) × (k < length lane.links) × (q ≡ lane.first + k)
      × Meets lane (task_at graph lane.to.0).wcet now next k)
  pub lists : ListsRisen now next rises

-- so many rounds lead from the one table to the other
abbrev pub AreRounds : TaskGraph → List Lane → ℕ → List ℕ → List ℕ → Type 0
AreRounds graph lanes zero old new = new ≡ old
AreRounds graph lanes (suc count) old new = (mid : List ℕ) × AreRounds graph lanes count old mid × AreRound graph lanes (length lanes) mid new

-- each date is within a bound
abbrev pub AreWithin : List ℕ → ℕ → Type 0
AreWithin table bound = (q : ℕ) → slice_index table q ≤ bound

-- what the dates of task i are at first
abbrev pub first_of : TaskGraph → First → ℕ → ℕ
first_of graph firsts.Wcet i = (task_at graph i).wcet
first_of graph firsts.Due i = (task_at graph i).due

-- the table of the first dates of the first `count` tasks
pub record IsFirstTable (graph : TaskGraph) (first : First) (count : ℕ) (table : List ℕ) : Type 0 where
  pub long : length table ≡ jobs_before graph count
  pub each : (i p : ℕ) → i < count → p < jobs_of graph i → slice_index table (jobs_before graph i + p) ≡ first_of graph first i

-- over the first `count` tasks the one table is nowhere above the other
abbrev pub IsNowhereAbove : TaskGraph → ℕ → List ℕ → List ℕ → Type 0
IsNowhereAbove graph count high low = (i p : ℕ) → i < count → p < jobs_of graph i →
    slice_index high (jobs_before graph i + p) ≤ slice_index low (jobs_before graph i + p)

-- job n of task i is the lowest at which the one table is above the other
pub record IsFirstAbove (graph : TaskGraph) (high low : List ℕ) (i n : ℕ) : Type 0 where
  pub of_period : IsOfPeriod graph i n
  pub above : slice_index low (jobs_before graph i + n) < slice_index high (jobs_before graph i + n)
  pub none_lower : (j p : ℕ) → IsOfPeriod graph j p → slice_index low (jobs_before graph j + p) < slice_index high (jobs_before graph j + p) →
      (i < j) ⊎ ((i ≡ j) × (n ≤ p))

-- the bests over chains of any length: a further round changes none, and each is within its due
pub record AreFinal (graph : TaskGraph) (lanes : List Lane) (table : List ℕ) : Type 0 where
  pub rounds : ℕ
  pub bests : AreBests graph rounds (dates_of graph table)
  pub still : AreRound graph lanes (length lanes) table table
  pub long : length table ≡ jobs_in_hyperperiod graph
  pub due : (i p : ℕ) → i < length graph.tasks → p < jobs_of graph i → slice_index table (jobs_before graph i + p) ≤ (task_at graph i).due

-- the dates leave time along all links of the first `count` lanes
abbrev pub LeaveAll : TaskGraph → List Lane → ℕ → List ℕ → Type 0
LeaveAll graph lanes count table = (l : ℕ) (lane : Lane) → l < count → slice_get lanes l ≡ Some lane → (k : ℕ) → k < length lane.links →
    Leaves lane (task_at graph lane.to.0).wcet table table k

-- dates between these and the deadlines, of which no family of deadlines is above any
pub record AreUpperDates (graph : TaskGraph) (floor table : List ℕ) : Type 0 where
  pub long : length table ≡ jobs_in_hyperperiod graph
  pub floors : (i p : ℕ) → i < length graph.tasks → p < jobs_of graph i → slice_index floor (jobs_before graph i + p) ≤ slice_index table (jobs_before graph i + p)
  pub due : (i p : ℕ) → i < length graph.tasks → p < jobs_of graph i → slice_index table (jobs_before graph i + p) ≤ (task_at graph i).due
  pub above : IsAboveDeadlines graph (dates_of graph table)

-- link k leaves time, or the job that it leads to is listed
abbrev pub HoldsAt : TaskGraph → Lane → List ℕ → List ℕ → ℕ → Type 0
HoldsAt graph lane table fell k = IsListed fell (lane.first + k) ⊎ Leaves lane (task_at graph lane.to.0).wcet table table k

-- so do the links of the first `count` lanes to this job
abbrev pub HoldAt : TaskGraph → List Lane → ℕ → ℕ → List ℕ → List ℕ → Type 0
HoldAt graph lanes count job table fell = (l : ℕ) (lane : Lane) → l < count → slice_get lanes l ≡ Some lane → (k : ℕ) → k < length lane.links → lane.first + k ≡ job →
    HoldsAt graph lane table fell k

-- and so do all links
abbrev pub HoldAll : TaskGraph → List Lane → List ℕ → List ℕ → Type 0
HoldAll graph lanes table fell = (l : ℕ) (lane : Lane) → slice_get lanes l ≡ Some lane → (k : ℕ) → k < length lane.links → HoldsAt graph lane table fell k

-- lower dates: links that left time still do, but for those to jobs that are listed since
pub record AreLowered (graph : TaskGraph) (old new before after : List ℕ) : Type 0 where
  pub keeps : (lane : Lane) (k : ℕ) → Leaves lane (task_at graph lane.to.0).wcet old old k → HoldsAt graph lane new after k
  pub grows : (q : ℕ) → IsListed before q → IsListed after q
  pub less : ((new ≡ old) × (after ≡ before)) ⊎ (sum new < sum old)
