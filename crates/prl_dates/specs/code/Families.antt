-- The bests of all jobs over chains of at most so many jobs, and how a round leads from one number to the next.
use Rattle.std.specs.Prelude.{◌≡◌, ◌+◌, ◌<◌, ◌⊎◌, ℕ, ℤ, pos, ◌+ℤ◌, ◌≤ℤ◌, length}
use Rattle.prl_plan.specs.declared.graphs.TaskGraph.{TaskGraph}
use Rattle.prl_plan.specs.Chains.{IsBest}
use Rattle.prl_plan.specs.Dates.{Family, AreDeadlines}
use Rattle.prl_plan.specs.Jobs.{Job, task_at}
use Rattle.prl_plan.specs.Precedence.{Precedes}

-- the bests over chains of at most `rounds + 1` jobs, which rise along each task
pub record AreBests (graph : TaskGraph) (rounds : ℕ) (best : Family) : Type 0 where
  pub bests : (job : Job) → job.task < length graph.tasks → IsBest graph (rounds + 1) job (best job.task job.number)
  pub rises : (i : ℕ) (a b : ℤ) → i < length graph.tasks → a ≤ℤ b → best i a ≤ℤ best i b

-- a job after another has time for its WCET from the date of that one
abbrev pub KeepsOrder : TaskGraph → Family → Family → Type 0
KeepsOrder graph before after = (first second : Job) → Precedes graph first second →
    (before first.task first.number +ℤ pos (task_at graph second.task).wcet) ≤ℤ after second.task second.number

-- Each date of the new family is the greatest of the old one's and those that jobs before ask for.
pub record IsRound (graph : TaskGraph) (old new : Family) : Type 0 where
  pub up : (i : ℕ) (m : ℤ) → i < length graph.tasks → old i m ≤ℤ new i m
  pub order : KeepsOrder graph old new
  pub only : (job : Job) → job.task < length graph.tasks →
      (new job.task job.number ≡ old job.task job.number)
      ⊎ ((first : Job) × Precedes graph first job × (new job.task job.number ≡ old first.task first.number +ℤ pos (task_at graph job.task).wcet))

-- no family of deadlines is above this one anywhere
abbrev pub IsAboveDeadlines : TaskGraph → Family → Type 0
IsAboveDeadlines graph date = (other : Family) → AreDeadlines graph other → (i : ℕ) (m : ℤ) → i < length graph.tasks → other i m ≤ℤ date i m
