-- A timed run as a list of events: the acts of a job together where its last unit begins, with the ticks between.
use Rattle.std.specs.Prelude.{◌≡◌, ◌+◌, ◌<◌, ◌≤◌, ◌++◌, ◌⊎◌, ◌==◌, ℕ, zero, suc, List, [], ◌∷◌, Option, Some, None, length, replicate, if◌then◌else◌}
use Rattle.prl_plan.specs.declared.events.Action.TheVariants as actions
use Rattle.prl_plan.specs.declared.events.Event.{Event}
use Rattle.prl_plan.specs.declared.events.Event.TheVariants as events
use Rattle.prl_plan.specs.Facts.{IsJob}
use Rattle.prl_plan.specs.Runs.{RunConstants, action_at}
use Rattle.prl_edf.specs.TimedRuns.{units_before}

-- all acts of job n of task i
abbrev pub acts_of : RunConstants → ℕ → ℕ → List Event
acts_of c i n = replicate (length (c.actions i n)) (events.Act (record { 0 = i }))

-- what is done at the beginning of tick t: all acts of the job of which the tick is the last unit
abbrev pub acts_in : RunConstants → (ℕ → ℕ → ℕ) → (ℕ → Option (ℕ × ℕ)) → ℕ → Option (ℕ × ℕ) → List Event
acts_in c units run t None = []
acts_in c units run t (Some job) = if units_before run (suc t) job.0 job.1 == units job.0 job.1 then acts_of c job.0 job.1 else []

-- the events up to the beginning of tick t, with what is done there
abbrev pub events_to : RunConstants → (ℕ → ℕ → ℕ) → (ℕ → Option (ℕ × ℕ)) → ℕ → List Event
events_to c units run zero = acts_in c units run zero (run zero)
events_to c units run (suc t) = events_to c units run t ++ (events.Tick ∷ acts_in c units run (suc t) (run (suc t)))

-- the last tick that goes to a job
pub record IsLastBusy (run : ℕ → Option (ℕ × ℕ)) (t : ℕ) : Type 0 where
  pub busy : run t ≡ None → ⊥
  pub last : (k : ℕ) → t < k → run k ≡ None

-- the events of a timed run: up to the beginning of its last tick that goes to a job; none where no tick does
abbrev pub IsUnrolled : RunConstants → (ℕ → ℕ → ℕ) → (ℕ → Option (ℕ × ℕ)) → List Event → Type 0
IsUnrolled c units run list =
    (((t : ℕ) → run t ≡ None) × (list ≡ [])) ⊎ ((t : ℕ) × IsLastBusy run t × (list ≡ events_to c units run t))

-- The list of actions of each horizon job has the job's end at its last place, and nowhere before it.
pub record HaveOneEnd (c : RunConstants) : Type 0 where
  pub last : (i n : ℕ) → IsJob c i n → (place : ℕ) × (length (c.actions i n) ≡ suc place) × (action_at c i n place ≡ actions.End)
  pub only : (i n place : ℕ) → IsJob c i n → action_at c i n place ≡ actions.End → length (c.actions i n) ≤ place + 1
