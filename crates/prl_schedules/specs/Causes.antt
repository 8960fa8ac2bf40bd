-- What a broken rule of a schedule is about.
use Rattle.std.specs.Prelude.{◌≡◌, ◌+◌, ◌<◌, ◌≤◌, ◌⊎◌, ℕ, List, Option, Some, None, take, slice_get}
use Rattle.prl_plan.specs.declared.events.Event.{Event}
use Rattle.prl_plan.specs.declared.events.Event.TheVariants as events
use Rattle.prl_plan.specs.declared.events.Rule.{Rule}
use Rattle.prl_plan.specs.declared.events.Rule.TheVariants as rules
use Rattle.prl_plan.specs.declared.horizons.Horizon.{Horizon}
use Rattle.prl_plan.specs.Horizons.{IsHorizon, constants_of}
use Rattle.prl_plan.specs.Plans.{PlanView}
use Rattle.prl_plan.specs.Rules.{FirstBroken, HasJob, IsLegal, first_unfinished}
use Rattle.prl_plan.specs.Runs.{ExecState, RunConstants, after_events, opening}
use Rattle.prl_schedules.specs.declared.causes.Cause.{Cause}
use Rattle.prl_schedules.specs.declared.causes.Cause.TheVariants as causes
use Rattle.prl_schedules.specs.declared.causes.DatedJob.{DatedJob}
use Rattle.prl_schedules.specs.declared.causes.Finding.{Finding}

-- this is the first unfinished job of its task, with its encoded dates
pub record IsFirstJob (c : RunConstants) (s : ExecState) (job : DatedJob) : Type 0 where
  pub unfinished : HasJob c s job.task.0
  pub number : job.number ≡ first_unfinished s job.task.0
  pub release : job.release ≡ c.release job.task.0 job.number
  pub deadline : job.deadline ≡ c.deadline job.task.0 job.number

-- this job has not ended, and is due at the next tick
abbrev pub IsDueJob : RunConstants → ExecState → DatedJob → Type 0
IsDueJob c s job = IsFirstJob c s job × (job.deadline ≤ s.now + 1)

-- What an event that breaks a rule is about: of an act, the job that acts and is not released; that all jobs of its task have
-- ended; or the job that acts and another, released and due earlier; of a tick, a job that has not ended and is due, or that
-- the run is over.
abbrev pub IsCause : RunConstants → ExecState → Event → Rule → Cause → Type 0
IsCause c s (events.Act task) rules.L1 (causes.Early job) = (job.task ≡ task) × IsFirstJob c s job × (s.now < job.release)
IsCause c s (events.Act task) rules.L2 (causes.AllEnded i jobs) = (i ≡ task) × (jobs ≡ c.jobs task.0) × (first_unfinished s task.0 ≡ jobs)
IsCause c s (events.Act task) rules.L3 (causes.Overtakes job other) =
    (job.task ≡ task) × IsFirstJob c s job × IsFirstJob c s other × (other.release ≤ s.now) × (other.deadline < job.deadline)
IsCause c s events.Tick rules.L4 (causes.Due job) = IsDueJob c s job
IsCause c s events.Tick rules.L4 (causes.DueOrOver job until) = IsDueJob c s job ⊎ ((c.jobs job.task.0 ≤ job.number) × (c.end ≤ s.now))
IsCause c s events.Tick rules.L4 causes.Over = c.end ≤ s.now
IsCause c s event rule cause = ⊥

-- The event at this index of a list breaks this rule first, and all before it keep the rules.
pub record IsBrokenAt (c : RunConstants) (list : List Event) (index : ℕ) (rule : Rule) : Type 0 where
  pub event : Event
  pub here : slice_get list index ≡ Some event
  pub legal : IsLegal c (opening c) (take index list)
  pub first : FirstBroken c (after_events c (opening c) (take index list)) event rule

-- the state before the event
abbrev pub state_at : RunConstants → List Event → ℕ → ExecState
state_at c list index = after_events c (opening c) (take index list)

-- What is told of a rule that a list breaks at an index is so in each horizon of the plan in which the list breaks it there;
-- nothing is told only where it does so in none.
abbrev pub IsFinding : PlanView → List Event → ℕ → Rule → Option Finding → Type 0
IsFinding plan list index rule None = (h : Horizon) → IsHorizon plan h → IsBrokenAt (constants_of plan h) list index rule → ⊥
IsFinding plan list index rule (Some finding) =
    (h : Horizon) → IsHorizon plan h → (at : IsBrokenAt (constants_of plan h) list index rule) →
    (finding.tick ≡ (state_at (constants_of plan h) list index).now)
    × IsCause (constants_of plan h) (state_at (constants_of plan h) list index) at.event rule finding.cause
