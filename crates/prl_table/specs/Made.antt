-- Tables that are cut out of a timed run.
use Rattle.std.specs.Prelude.{◌≡◌, ◌+◌, ◌-◌, ◌*◌, ◌/◌, ◌%◌, ◌++◌, ◌<◌, ◌≤◌, ◌==◌, ◌&&◌, ℕ, zero, suc, Bool, true, false, List, [], ◌∷◌, Option, Some, None, length, max, slice_get, if◌then◌else◌}
use Rattle.std.specs.Int.{div_ceil}
use Rattle.prl_plan.specs.declared.graphs.Task.{Task}
use Rattle.prl_plan.specs.declared.graphs.TaskGraph.{TaskGraph}
use Rattle.prl_plan.specs.Horizons.{sum_below}
use Rattle.prl_plan.specs.Jobs.{task_at, IsHorizonJob}
use Rattle.prl_plan.specs.Plans.{PlanView, release_at, deadline_at}
use Rattle.prl_overlaps.specs.declared.entries.Entry.{Entry}
use Rattle.prl_tables.specs.Tables.{classes, units_of}

-- by tick, task and job: the tick goes to the job
abbrev pub Run : Type 0
Run = ℕ → ℕ → ℕ → Bool

-- how many of n ticks, of which the first is `from`, go to the job
abbrev pub units_in : Run → ℕ → ℕ → ℕ → ℕ → ℕ
units_in run from zero i m = 0
units_in run from (suc n) i m = units_in run from n i m + (if run (from + n) i m then 1 else 0)

-- A run by earliest deadlines that meets all windows: each tick goes to one job at most, each job has its WCET within its window,
-- and where a tick goes to a job, what is released and due before that job has no unit from then on.
pub record IsRun (plan : PlanView) (until : ℕ) (run : Run) : Type 0 where
  pub one : (t i m j k : ℕ) → run t i m ≡ true → run t j k ≡ true → (i ≡ j) × (m ≡ k)
  pub job : (t i m : ℕ) → run t i m ≡ true → IsHorizonJob plan.graph until i m
  pub window : (t i m : ℕ) → run t i m ≡ true → (release_at plan i m ≤ t) × (t < deadline_at plan i m)
  pub whole : (i m from n : ℕ) → IsHorizonJob plan.graph until i m → from ≤ release_at plan i m → deadline_at plan i m ≤ from + n →
      units_in run from n i m ≡ (task_at plan.graph i).wcet
  pub first : (t j k i n later : ℕ) → run t j k ≡ true → IsHorizonJob plan.graph until i n → release_at plan i n ≤ t → deadline_at plan i n < deadline_at plan j k →
      t ≤ later → run later i n ≡ false

-- A timed run that gives each job its WCET by its deadline, and no more: each tick goes to one released job at most.
pub record IsTimed (plan : PlanView) (until : ℕ) (run : Run) : Type 0 where
  pub one : (t i m j k : ℕ) → run t i m ≡ true → run t j k ≡ true → (i ≡ j) × (m ≡ k)
  pub job : (t i m : ℕ) → run t i m ≡ true → IsHorizonJob plan.graph until i m
  pub released : (t i m : ℕ) → run t i m ≡ true → release_at plan i m ≤ t
  pub most : (i m t : ℕ) → IsHorizonJob plan.graph until i m → units_in run 0 t i m ≤ (task_at plan.graph i).wcet
  pub all : (i m : ℕ) → IsHorizonJob plan.graph until i m → units_in run 0 (deadline_at plan i m) i m ≡ (task_at plan.graph i).wcet

-- by earliest deadlines: a tick goes to no job while a released one with units left is due before it
abbrev pub IsEdf : PlanView → ℕ → Run → Type 0
IsEdf plan until run = (t j k i n : ℕ) → run t j k ≡ true → IsHorizonJob plan.graph until i n → release_at plan i n ≤ t →
    units_in run 0 t i n < (task_at plan.graph i).wcet → deadline_at plan j k ≤ deadline_at plan i n

-- in the hyperperiod from `start` on, the run does what it does in the next one
abbrev pub IsSteady : PlanView → Run → ℕ → Type 0
IsSteady plan run start = (t i m : ℕ) → start ≤ t → t < start + plan.graph.hyper → i < length plan.graph.tasks →
    run t i m ≡ run (t + plan.graph.hyper) i (m + classes plan.graph i)

-- an entry is a piece of the run in the hyperperiod from `start` on, moved back by `back` hyperperiods
pub record IsCutFrom (plan : PlanView) (run : Run) (start : ℕ) (entry : Entry) (back : ℕ) : Type 0 where
  pub task : entry.task.0 < length plan.graph.tasks
  pub job : entry.job < classes plan.graph entry.task.0
  pub units : 1 ≤ entry.units
  pub from : start ≤ entry.at + back * plan.graph.hyper
  pub to : entry.at + back * plan.graph.hyper + entry.units ≤ start + plan.graph.hyper
  pub runs : (t : ℕ) → entry.at + back * plan.graph.hyper ≤ t → t < entry.at + back * plan.graph.hyper + entry.units →
      run t entry.task.0 (entry.job + back * classes plan.graph entry.task.0) ≡ true

-- the entries are the pieces of the run in this hyperperiod; each of its ticks stands in one at most, and each class has all its ticks
pub record IsCut (plan : PlanView) (run : Run) (start bound : ℕ) (entries : List Entry) : Type 0 where
  pub piece : (k : ℕ) (entry : Entry) → slice_get entries k ≡ Some entry → (back : ℕ) × IsCutFrom plan run start entry back
  pub once : (k l : ℕ) (one other : Entry) (x y t : ℕ) → slice_get entries k ≡ Some one → slice_get entries l ≡ Some other →
      one.at + x * plan.graph.hyper ≤ t → t < one.at + x * plan.graph.hyper + one.units → IsCutFrom plan run start one x →
      other.at + y * plan.graph.hyper ≤ t → t < other.at + y * plan.graph.hyper + other.units → IsCutFrom plan run start other y → k ≡ l
  pub units : (i c : ℕ) → i < length plan.graph.tasks → c < classes plan.graph i →
      units_of entries i c ≡ sum_below (λ h. units_in run start plan.graph.hyper i (c + h * classes plan.graph i)) bound

-- a tick that goes to this goes to job m of task i
abbrev pub is_job : Option (ℕ × ℕ) → ℕ → ℕ → Bool
is_job None i m = false
is_job (Some job) i m = (job.0 == i) && (job.1 == m)

-- the run of which this tells what each tick goes to
abbrev pub goes : (ℕ → Option (ℕ × ℕ)) → Run
goes run t i m = is_job (run t) i m

abbrev pub greatest_start : List Task → ℕ
greatest_start [] = 0
greatest_start (task ∷ tasks) = max task.clock.start (greatest_start tasks)

-- how many hyperperiods begin before every task has started and one more is over
abbrev pub hypers_before : TaskGraph → ℕ
hypers_before graph = 1 + div_ceil (greatest_start graph.tasks) graph.hyper

-- the first tick of the hyperperiod that is cut out, and up to when the run goes: one hyperperiod more
abbrev pub cut_from : PlanView → ℕ
cut_from plan = hypers_before plan.graph * plan.graph.hyper

abbrev pub run_until : PlanView → ℕ
run_until plan = cut_from plan + 2 * plan.graph.hyper

-- what a tick goes to, one hyperperiod later
abbrev pub later : PlanView → Option (ℕ × ℕ) → Option (ℕ × ℕ)
later plan None = None
later plan (Some job) = Some (job.0, job.1 + classes plan.graph job.0)

-- the last tick went to the job, too
abbrev pub is_same : Option (ℕ × ℕ) → ℕ × ℕ → Bool
is_same None job = false
is_same (Some last) job = (last.0 == job.0) && (last.1 == job.1)

-- a unit at tick t, moved back by hyperperiods to the job's class
abbrev pub unit_at : PlanView → ℕ → ℕ × ℕ → Entry
unit_at plan t job = record {
  at = t - job.1 / classes plan.graph job.0 * plan.graph.hyper;
  task = record { 0 = job.0 };
  job = job.1 % classes plan.graph job.0;
  units = 1;
}

-- an entry with one unit more
abbrev pub longer : Entry → Entry
longer entry = record entry { units = entry.units + 1 }

-- the last entry with one unit more
abbrev pub lengthened : List Entry → List Entry
lengthened [] = []
lengthened (entry ∷ []) = longer entry ∷ []
lengthened (entry ∷ next ∷ entries) = entry ∷ lengthened (next ∷ entries)

-- the entries with what tick t goes to, where the tick before went to `last`
abbrev pub with_tick : PlanView → List Entry → ℕ → Option (ℕ × ℕ) → Option (ℕ × ℕ) → List Entry
with_tick plan entries t last None = entries
with_tick plan entries t last (Some job) = if is_same last job then lengthened entries else entries ++ unit_at plan t job ∷ []

-- what the last of n ticks from `start` on goes to
abbrev pub last_of : (ℕ → Option (ℕ × ℕ)) → ℕ → ℕ → Option (ℕ × ℕ)
last_of run start zero = None
last_of run start (suc n) = run (start + n)

-- the pieces of a run over n ticks from `start` on, each as long as possible and moved back to its job's class
abbrev pub cut_to : PlanView → (ℕ → Option (ℕ × ℕ)) → ℕ → ℕ → List Entry
cut_to plan run start zero = []
cut_to plan run start (suc n) = with_tick plan (cut_to plan run start n) (start + n) (last_of run start n) (run (start + n))

-- in the hyperperiod that is cut out each tick goes to the job that the tick a hyperperiod later goes to, moved back by one
abbrev pub IsSteadyRun : PlanView → (ℕ → Option (ℕ × ℕ)) → Type 0
IsSteadyRun plan run = (t : ℕ) → cut_from plan ≤ t → t < cut_from plan + plan.graph.hyper → later plan (run t) ≡ run (t + plan.graph.hyper)
