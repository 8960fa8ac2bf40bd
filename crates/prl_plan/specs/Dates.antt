-- Encoded dates: releases and deadlines that already keep each job after the jobs that precede it.
use Rattle.std.specs.Prelude.{◌≡◌, ◌-◌, ◌*◌, ◌<◌, ◌%◌, ℕ, ℤ, pos, negsuc, ◌+ℤ◌, ◌≤ℤ◌, List, [], length, slice_index_or}
use Rattle.prl_plan.specs.declared.graphs.TaskGraph.{TaskGraph}
use Rattle.prl_plan.specs.declared.tables.Window.{Window}
use Rattle.prl_plan.specs.Jobs.{Job, task_at, release_of, deadline_of}
use Rattle.prl_plan.specs.Precedence.{Precedes}

-- a date in ticks for each job, by task and number, over all whole numbers
abbrev pub Family : Type 0
Family = ℕ → ℤ → ℤ

-- No job is dated before its release, nor before the date of a job that precedes it and then that job's WCET.
pub record AreReleases (graph : TaskGraph) (date : Family) : Type 0 where
  pub above : (i : ℕ) (m : ℤ) → i < length graph.tasks → release_of (task_at graph i) m ≤ℤ date i m
  pub along : (before after : Job) → Precedes graph before after →
      (date before.task before.number +ℤ pos (task_at graph before.task).wcet) ≤ℤ date after.task after.number

-- No job is dated after its deadline, nor so late that its date and then the WCET of a job that it precedes pass that
-- job's date.
pub record AreDeadlines (graph : TaskGraph) (date : Family) : Type 0 where
  pub below : (i : ℕ) (m : ℤ) → i < length graph.tasks → date i m ≤ℤ deadline_of (task_at graph i) m
  pub along : (before after : Job) → Precedes graph before after →
      (date before.task before.number +ℤ pos (task_at graph after.task).wcet) ≤ℤ date after.task after.number

pub record AreLeastReleases (graph : TaskGraph) (date : Family) : Type 0 where
  pub releases : AreReleases graph date
  pub least : (other : Family) → AreReleases graph other → (i : ℕ) (m : ℤ) → i < length graph.tasks → date i m ≤ℤ other i m

pub record AreGreatestDeadlines (graph : TaskGraph) (date : Family) : Type 0 where
  pub deadlines : AreDeadlines graph date
  pub greatest : (other : Family) → AreDeadlines graph other → (i : ℕ) (m : ℤ) → i < length graph.tasks → other i m ≤ℤ date i m

-- the family comes again a hyperperiod later, where a task has so many jobs in one
pub record RepeatsByHyper (graph : TaskGraph) (date : Family) : Type 0 where
  pub again : (i jobs : ℕ) → i < length graph.tasks → graph.hyper ≡ jobs * (task_at graph i).clock.period → (m : ℤ) →
      date i (m +ℤ pos jobs) ≡ date i m +ℤ pos graph.hyper

-- the place of a whole number in a list of this length that repeats in both directions
abbrev pub place_in : ℤ → ℕ → ℕ
place_in (pos n) len = n % len
place_in (negsuc n) len = len - 1 - n % len

-- stands where there is no window
abbrev pub no_window : Window
no_window = record { lead = 0; tail = 0 }

-- the window of job m of task i, where the list of each task repeats from job 0 on
abbrev pub window_at : List (List Window) → ℕ → ℤ → Window
window_at windows i m = let list = slice_index_or windows i [] in slice_index_or list (place_in m (length list)) no_window

-- the encoded release of job m of task i, in ticks
abbrev pub encoded_release : TaskGraph → List (List Window) → Family
encoded_release graph windows i m = release_of (task_at graph i) m +ℤ pos (window_at windows i m).lead

-- the encoded deadline of job m of task i, in ticks
abbrev pub encoded_deadline : TaskGraph → List (List Window) → Family
encoded_deadline graph windows i m = release_of (task_at graph i) m +ℤ pos (window_at windows i m).tail

-- The windows are those of the encoded dates: the least releases and the greatest deadlines. Each task has some.
pub record AreEncodedDates (graph : TaskGraph) (windows : List (List Window)) : Type 0 where
  pub lists : length windows ≡ length graph.tasks
  pub some : (i : ℕ) → i < length graph.tasks → 0 < length (slice_index_or windows i [])
  pub releases : AreLeastReleases graph (encoded_release graph windows)
  pub deadlines : AreGreatestDeadlines graph (encoded_deadline graph windows)
