-- The list of events in which each job does all its actions at a tick of its own.
use Rattle.std.specs.Prelude.{◌≡◌, ◌++◌, ◌<◌, ◌≤◌, ◌==◌, ◌⊎◌, ℕ, zero, suc, List, [], ◌∷◌, slice_index, if◌then◌else◌}
use Rattle.prl_edf.specs.Unrolled.{acts_of}
use Rattle.prl_plan.specs.declared.events.Event.{Event}
use Rattle.prl_plan.specs.declared.events.Event.TheVariants as events
use Rattle.prl_plan.specs.Facts.{IsJob, ReadsAt, WritesAt}
use Rattle.prl_plan.specs.Runs.{RunConstants, ExecState}
use Rattle.prl_plan.specs.States.{IsSound}

-- by task and job, the tick at whose beginning it acts
abbrev pub Placing : Type 0
Placing = ℕ → ℕ → ℕ

-- those of the first n jobs of task i that act at tick t
abbrev pub acts_of_jobs : RunConstants → Placing → ℕ → ℕ → ℕ → List Event
acts_of_jobs c at t i zero = []
acts_of_jobs c at t i (suc n) = acts_of_jobs c at t i n ++ (if at i n == t then acts_of c i n else [])

-- those of the first i tasks
abbrev pub acts_of_tasks : RunConstants → Placing → ℕ → ℕ → List Event
acts_of_tasks c at t zero = []
acts_of_tasks c at t (suc i) = acts_of_tasks c at t i ++ acts_of_jobs c at t i (c.jobs i)

-- those of the first t ticks, and these ticks
abbrev pub unrolled_to : RunConstants → Placing → ℕ → List Event
unrolled_to c at zero = []
unrolled_to c at (suc t) = unrolled_to c at t ++ acts_of_tasks c at t c.tasks ++ events.Tick ∷ []

-- the whole list, up to the greatest encoded deadline
abbrev pub unrolled : RunConstants → Placing → List Event
unrolled c at = unrolled_to c at c.end

-- each job acts within its window, and after the job that it reads from
pub record IsPlacing (c : RunConstants) (at : Placing) : Type 0 where
  pub released : (i n : ℕ) → IsJob c i n → c.release i n ≤ at i n
  pub due : (i n : ℕ) → IsJob c i n → at i n < c.deadline i n
  pub after : (j k place m slot i n written : ℕ) → ReadsAt c j k place m slot → WritesAt c i n written m slot → at i n < at j k

-- job k of task j acts before job n of task i has its turn at tick t
abbrev pub ActsBefore : Placing → ℕ → ℕ → ℕ → ℕ → ℕ → Type 0
ActsBefore at t i n j k = (at j k < t) ⊎ ((at j k ≡ t) × ((j < i) ⊎ ((j ≡ i) × (k < n))))

-- the state between two jobs: exactly the jobs that act before job n of task i at tick t have ended, and none has begun
pub record HaveActed (c : RunConstants) (at : Placing) (t i n : ℕ) (s : ExecState) : Type 0 where
  pub sound : IsSound c s
  pub now : s.now ≡ t
  pub idle : (j : ℕ) → slice_index s.places j ≡ 0
  pub done : (j k : ℕ) → IsJob c j k → ActsBefore at t i n j k → k < slice_index s.ended j
  pub left : (j k : ℕ) → IsJob c j k → k < slice_index s.ended j → ActsBefore at t i n j k
