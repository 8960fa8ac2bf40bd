-- The cells of one edge.
use Rattle.std.specs.Prelude.{◌≡◌, ◌+◌, ◌*◌, ◌/◌, ◌-◌, ◌<◌, ◌≤◌, ◌^◌, ℕ, zero, suc, pos, List, Some, length, take, sum, min, slice_get, slice_index}
use Rattle.prl_plan.specs.declared.graphs.Edge.{Edge}
use Rattle.prl_plan.specs.declared.graphs.TaskGraph.{TaskGraph}
use Rattle.prl_plan.specs.declared.limits.TheConstants.{MAX_PREFIX}
use Rattle.prl_plan.specs.declared.tables.Used.{Used}
use Rattle.prl_plan.specs.declared.tables.Window.{Window}
use Rattle.prl_plan.specs.declared.words.Word.{Word}
use Rattle.prl_plan.specs.Cells.{EnumeratesUsed, IsLeastCount, HasCells}
use Rattle.prl_plan.specs.CellLists.{ListsSums}
use Rattle.prl_plan.specs.Dates.{AreEncodedDates, encoded_release, encoded_deadline, window_at}
use Rattle.prl_plan.specs.Graphs.{IsWellFormed}
use Rattle.prl_plan.specs.Jobs.{task_at}
use Rattle.prl_plan.specs.Repeats.{repeated, IsShortestRepeat}
use Rattle.prl_plan.specs.Words.{IsWordOf}

-- an edge of a well-formed graph, with its word and the encoded dates of the graph
pub record IsPlanned (graph : TaskGraph) (windows : List (List Window)) (edge : Edge) (word : Word) : Type 0 where
  pub well : IsWellFormed graph
  pub dates : AreEncodedDates graph windows
  pub place : ℕ
  pub at : slice_get graph.edges place ≡ Some edge
  pub of_edge : IsWordOf edge.ops word
  pub few : length word.prefix ≤ MAX_PREFIX

-- how many jobs the consumer has in a hyperperiod
abbrev pub jobs_of : TaskGraph → Edge → ℕ
jobs_of graph edge = graph.hyper / (task_at graph edge.to.0).clock.period

-- the encoded dates of a job with a number from 0 on
abbrev pub release_in : TaskGraph → List (List Window) → ℕ → ℕ → ℕ
release_in graph windows i m = (task_at graph i).clock.start + m * (task_at graph i).clock.period + (window_at windows i (pos m)).lead

abbrev pub deadline_in : TaskGraph → List (List Window) → ℕ → ℕ → ℕ
deadline_in graph windows i n = (task_at graph i).clock.start + n * (task_at graph i).clock.period + (window_at windows i (pos n)).tail

-- the encoded releases of the instances that the gaps lead to; one of 2^64 or more is told as the number before
pub record AreReleases (graph : TaskGraph) (windows : List (List Window)) (i first : ℕ) (gaps releases : List ℕ) : Type 0 where
  pub long : length releases ≡ length gaps
  pub each : (x : ℕ) → x < length gaps → slice_index releases x ≡ min (release_in graph windows i (first + sum (take x gaps))) (2 ^ 64 - 1)

-- the numbers of these dates fit
pub record ReleasesFit (graph : TaskGraph) (i first : ℕ) (gaps : List ℕ) : Type 0 where
  pub last : first + sum gaps < 2 ^ 63
  pub each : (x : ℕ) → x < length gaps → (task_at graph i).clock.start + (first + sum (take x gaps)) * (task_at graph i).clock.period < 2 ^ 63

-- the encoded deadlines of these jobs, numbered from one on
pub record AreEnds (graph : TaskGraph) (windows : List (List Window)) (i from : ℕ) (jobs ends : List ℕ) : Type 0 where
  pub long : length ends ≡ length jobs
  pub each : (x : ℕ) → x < length jobs → slice_index ends x ≡ deadline_in graph windows i (from + slice_index jobs x)

abbrev pub EndsFit : TaskGraph → List (List Window) → ℕ → ℕ → List ℕ → Type 0
EndsFit graph windows i from jobs = (x : ℕ) → x < length jobs → deadline_in graph windows i (from + slice_index jobs x) < 2 ^ 50

-- a front of the list that repeats as it does, and is the shortest that does so
pub record IsCutOf (list cut : List ℕ) : Type 0 where
  pub front : cut ≡ take (length cut) list
  pub some : 1 ≤ length cut
  pub within : length cut ≤ length list
  pub same : (n : ℕ) → repeated cut n ≡ repeated list n
  pub shortest : IsShortestRepeat cut

-- the least number of cells of an edge from task i, and it fits
pub record HasLeastCount (graph : TaskGraph) (windows : List (List Window)) (edge : Edge) (i : ℕ) (used : Used) (count : ℕ) : Type 0 where
  pub least : IsLeastCount edge i (encoded_release graph windows) (encoded_deadline graph windows) used count
  pub small : count < 2 ^ 51

-- the used instances and the least number of cells of an edge from task i
pub record HasTaskCells (graph : TaskGraph) (windows : List (List Window)) (edge : Edge) (i count : ℕ) (used : Used) (sums : List ℕ) : Type 0 where
  pub enumerates : EnumeratesUsed edge used
  pub count_is : HasLeastCount graph windows edge i used count
  pub short : IsShortestRepeat used.gaps
  pub summed : ListsSums used.gaps sums

-- the first cell of an edge; one without cells has base 0
abbrev pub base_of : ℕ → ℕ → ℕ
base_of zero before = 0
base_of (suc count) before = before

-- the cells of an edge, after so many cells of other edges
pub record HasEdgeCells (graph : TaskGraph) (windows : List (List Window)) (edge : Edge) (count : ℕ) (used : Used) (sums : List ℕ) : Type 0 where
  pub cells : (before : ℕ) → HasCells edge edge.from (encoded_release graph windows) (encoded_deadline graph windows) before (base_of count before) count used
  pub short : IsShortestRepeat used.gaps
  pub summed : ListsSums used.gaps sums
  pub small : count < 2 ^ 51
