-- Runs of jobs that the same job precedes.
use Rattle.std.specs.Prelude.{◌≡◌, ◌<◌, ◌≤◌, ℕ, ℤ, pos, ◌≤ℤ◌, List}
use Rattle.prl_base.specs.declared.operators.Op.{Op}
use Rattle.prl_plan.specs.Precedence.{preceding}
use Rattle.prl_plan.specs.Ranges.{PrecedingFits}

-- a later job is preceded by no earlier one
abbrev pub Rises : List Op → Type 0
Rises ops = (a b : ℤ) → a ≤ℤ b → preceding ops a ≤ℤ preceding ops b

-- the numbers on the way fit, from each of the first jobs
abbrev pub AreFitting : List Op → ℕ → Type 0
AreFitting ops jobs = (n : ℕ) → n < jobs → PrecedingFits ops (pos n)

-- this job, from job `from` on, is one of the first jobs, and the job of this number precedes it
pub record IsSameTo (ops : List Op) (from : ℕ) (value : ℤ) (jobs last : ℕ) : Type 0 where
  pub after : from ≤ last
  pub inside : last < jobs
  pub same : preceding ops (pos last) ≡ value
