-- What is told of a plan, row by row.
use Rattle.std.specs.Prelude.{◌≡◌, ◌==◌, ◌&&◌, ◌++◌, ℕ, zero, suc, Bool, true, List, [], ◌∷◌, Option, Some, None, length, cond, nat_lt}
use Rattle.prl_base.specs.declared.numbers.TaskNo.{TaskNo}
use Rattle.prl_plan.specs.declared.graphs.TaskGraph.{TaskGraph}
use Rattle.prl_plan.specs.declared.horizons.Horizon.{Horizon}
use Rattle.prl_plan.specs.Horizons.{constants_of, IsHorizon}
use Rattle.prl_plan.specs.Plans.{PlanView}
use Rattle.prl_plan.specs.Vocabulary.{is_actuator, is_sensor, task_at}
use Rattle.prl_overlaps.specs.Demand.{wcets_of}
use Rattle.prl_edf.specs.declared.analysis.Verdict.TheVariants as runs
use Rattle.prl_edf.specs.declared.runs.Timed.{Timed}
use Rattle.prl_edf.specs.Vocabulary.{IsFeasibleRun, IsVerdict as IsRunVerdict, run_of}
use Rattle.prl_forever.specs.Answers.{IsAnswer}
use Rattle.prl_forever.specs.Forever.{load_of, ServesForEver}
use Rattle.prl_forever.specs.declared.deciding.ForEver.TheVariants as answers
use Rattle.prl_steady.specs.Shares.{sum_within, told_until, IsShareOfHyper, IsShareWithin}
use Rattle.prl_steady.specs.Times.{IsTimesForEver}
use Rattle.prl_ages.specs.Skews.{IsSkewVerdict}
use Rattle.prl_ages.specs.Verdicts.{IsVerdict}
use Rattle.prl_responses.specs.Responses.{IsTimesOf}
use Rattle.prl_responses.specs.declared.responses.Times.{Times}
use Rattle.prl_timetext.specs.declared.rows.Lasting.{Lasting}
use Rattle.prl_timetext.specs.declared.rows.Lasting.TheVariants as lasting
use Rattle.prl_timetext.specs.declared.rows.Row.{Row}
use Rattle.prl_timetext.specs.declared.rows.Row.TheVariants as rows

-- the run by earliest deadline first of the jobs before a tick meets all deadlines, and the jobs of a task end in it so soon
abbrev pub EndSo : PlanView → ℕ → ℕ → Option Times → Type 0
EndSo plan until i times =
    (horizon : Horizon) × IsHorizon plan horizon × (horizon.until ≡ until)
    × ((timed : Timed) × IsFeasibleRun (constants_of plan horizon) (wcets_of plan) timed × IsTimesOf plan.graph (run_of timed.pieces) i times)

-- it does not, and this overloaded interval tells why
abbrev pub IsOverloadOf : PlanView → ℕ → ℕ → ℕ → ℕ → Type 0
IsOverloadOf plan until from to demand =
    (horizon : Horizon) × IsHorizon plan horizon × (horizon.until ≡ until) × IsRunVerdict (constants_of plan horizon) (wcets_of plan) (runs.Overload from to demand)

-- a row of what is told for ever is right
abbrev pub IsLasting : PlanView → Lasting → Type 0
IsLasting plan lasting.Served = ServesForEver plan
IsLasting plan (lasting.Heavy load hyper) = IsAnswer plan (answers.Heavy load) × (hyper ≡ plan.graph.hyper)
IsLasting plan (lasting.Hyper task share) = IsShareOfHyper plan task.0 share
IsLasting plan (lasting.Overload from to demand) = IsAnswer plan (answers.Overload from to demand)
IsLasting plan (lasting.Within from to task share) = IsShareWithin plan from to task.0 share
IsLasting plan (lasting.Task task times) = IsTimesForEver plan task.0 times

-- a row is right, where a chain is named or none, and for a run up to a tick
abbrev pub IsRow : PlanView → List TaskNo → ℕ → Row → Type 0
IsRow plan chain until (rows.Load load hyper) = (load ≡ load_of plan) × (hyper ≡ plan.graph.hyper)
IsRow plan chain until (rows.Age sensor actuator verdict) = IsVerdict plan.graph [] sensor.0 actuator.0 verdict
IsRow plan chain until (rows.Chain first last verdict) = IsVerdict plan.graph chain first.0 last.0 verdict
IsRow plan chain until (rows.Skew first second actuator verdict) = IsSkewVerdict plan.graph first.0 second.0 actuator.0 verdict
IsRow plan chain until (rows.Task task times) = EndSo plan until task.0 times
IsRow plan chain until (rows.Overload from to demand) = IsOverloadOf plan until from to demand
IsRow plan chain until (rows.ForEver row) = IsLasting plan row

-- what a row is about
pub data Subject : Type 0 where
  load : Subject
  age : ℕ → ℕ → Subject
  chain : ℕ → ℕ → Subject
  skew : ℕ → ℕ → ℕ → Subject
  task : ℕ → Subject
  overload : Subject
  served : Subject
  heavy : Subject
  hyper_share : ℕ → Subject
  lasting_overload : ℕ → ℕ → Subject
  share_within : ℕ → ℕ → ℕ → Subject
  lasting_task : ℕ → Subject

abbrev pub about_lasting : Lasting → Subject
about_lasting lasting.Served = served
about_lasting (lasting.Heavy l h) = heavy
about_lasting (lasting.Hyper i share) = hyper_share i.0
about_lasting (lasting.Overload from to demand) = lasting_overload from to
about_lasting (lasting.Within from to i share) = share_within from to i.0
about_lasting (lasting.Task i times) = lasting_task i.0

abbrev pub about : Row → Subject
about (rows.Load l h) = load
about (rows.Age s a verdict) = age s.0 a.0
about (rows.Chain first last verdict) = chain first.0 last.0
about (rows.Skew first second a verdict) = skew first.0 second.0 a.0
about (rows.Task i times) = task i.0
about (rows.Overload from to demand) = overload
about (rows.ForEver row) = about_lasting row

-- a task is asked for: it is the one that is named, or none is
abbrev pub is_asked : Option TaskNo → ℕ → Bool
is_asked None i = true
is_asked (Some only) i = only.0 == i

-- the sensors that are asked for, of the first tasks, at an actuator
abbrev pub sensors_at : TaskGraph → Option TaskNo → ℕ → ℕ → List Subject
sensors_at graph only a zero = []
sensors_at graph only a (suc s) = sensors_at graph only a s ++ cond (is_sensor (task_at graph s).kind && is_asked only s) (age s a ∷ []) []

-- and at each actuator that is asked for, of the first tasks
abbrev pub ages_at : TaskGraph → Option TaskNo → Option TaskNo → ℕ → List Subject
ages_at graph sensor actuator zero = []
ages_at graph sensor actuator (suc a) =
    ages_at graph sensor actuator a ++ cond (is_actuator (task_at graph a).kind && is_asked actuator a) (sensors_at graph sensor a (length graph.tasks)) []

-- the first tasks, by what is told of each
abbrev pub each_to : (ℕ → Subject) → ℕ → List Subject
each_to subject zero = []
each_to subject (suc i) = each_to subject i ++ subject i ∷ []

-- the first tasks that have jobs that have to run within [from, to)
abbrev pub withins_to : PlanView → ℕ → ℕ → ℕ → List Subject
withins_to plan from to zero = []
withins_to plan from to (suc i) =
    withins_to plan from to i
    ++ cond (nat_lt 0 (sum_within plan (λ i n. 1) (told_until plan) from to i)) (share_within from to i ∷ []) []

-- the first tasks
abbrev pub tasks_to : ℕ → List Subject
tasks_to zero = []
tasks_to (suc i) = tasks_to i ++ task i ∷ []
