-- What is told beside the place and the sentence, by the plan of the program.
use Rattle.std.specs.Prelude.{◌≡◌, ◌⊎◌, ℕ, zero, suc, List, [], Option, Some, None, Result, Ok, Err}
use Rattle.prl_base.specs.Decimals.{decimal_of}
use Rattle.prl_schedules.specs.declared.causes.Finding.{Finding}
use Rattle.prl_schedules.specs.declared.lefts.Left.{Left}
use Rattle.prl_schedules.specs.Causes.{IsFinding}
use Rattle.prl_schedules.specs.CauseTexts.{finding_text, left_text}
use Rattle.prl_schedules.specs.Lefts.{IsLeft}
use Rattle.prl_cores.specs.declared.texts.CoresFault.TheVariants as cores_faults
use Rattle.prl_cores.specs.Processors.{processors_of}
use Rattle.prl_plan.specs.declared.events.Event.{Event}
use Rattle.prl_plan.specs.declared.events.Rule.{Rule}
use Rattle.prl_plan.specs.Plans.{PlanView}
use Rattle.prl_plantext.specs.ReadTexts.{IsTextOf}
use Rattle.prl_schedules.specs.declared.schedules.ScheduleFault.{ScheduleFault}
use Rattle.prl_schedules.specs.Schedules.{schedule_of, task_of, without_return}
use Rattle.prl_schedules.specs.ScheduleTexts.{task_names}
use Rattle.prl_stages.specs.PlansAlone.{IsPlanOrNone, program_alone}
use Rattle.prl_overloads.specs.declared.overloads.Overload.{Overload}
use Rattle.prl_tablefaults.specs.FaultTexts.{IsTableTold}
use Rattle.prl_tablefaults.specs.LoadTexts.{IsOverloadTold}
use Rattle.prl_explain.specs.Placings.{placing_text}
use Rattle.prl_spots.specs.Places.{IsLineStart, line_rest}

-- the plan of a program; none where a stage refuses it
abbrev pub IsPlanOf : Option (List ℕ) → Option (List ℕ) → Option PlanView → Type 0
IsPlanOf None asked found = found ≡ None
IsPlanOf (Some program) asked found = IsPlanOrNone (program_alone program asked) found

-- the plan whose text is named, or that of the program where none is
abbrev pub IsPlanFrom : Option (List ℕ) → Option (List ℕ) → Option (List ℕ) → Option PlanView → Type 0
IsPlanFrom None program asked found = IsPlanOf program asked found
IsPlanFrom (Some text) program asked (Some plan) = IsTextOf plan text
IsPlanFrom (Some text) program asked None = (plan : PlanView) → IsTextOf plan text → ⊥

-- what was found, as a line
abbrev pub found_text : PlanView → Option Finding → List ℕ
found_text plan None = []
found_text plan (Some finding) = finding_text (task_names plan) finding

-- what is told of the event of a line, which counts from 1
abbrev pub IsOfLine : PlanView → List Event → Option ℕ → Rule → List ℕ → Type 0
IsOfLine plan events None rule text = text ≡ []
IsOfLine plan events (Some zero) rule text = text ≡ []
IsOfLine plan events (Some (suc index)) rule text =
    (found : Option Finding) × IsFinding plan events index rule found × (text ≡ found_text plan found)

-- of the events of a schedule; nothing where it is none
abbrev pub IsOfEvents : PlanView → Result (List Event) ScheduleFault → List ℕ → Rule → List ℕ → Type 0
IsOfEvents plan (Err fault) argument rule text = text ≡ []
IsOfEvents plan (Ok events) argument rule text = IsOfLine plan events (decimal_of argument) rule text

-- of a schedule, where one is named
abbrev pub IsOfSchedule : PlanView → Option (List ℕ) → List ℕ → Rule → List ℕ → Type 0
IsOfSchedule plan None argument rule text = text ≡ []
IsOfSchedule plan (Some schedule) argument rule text = IsOfEvents plan (schedule_of (task_names plan) schedule) argument rule text

-- The task of this name has a first unfinished job of this number after the events, and this much of it is left.
pub record IsLeftOf (plan : PlanView) (events : List Event) (name number : List ℕ) (left : Left) : Type 0 where
  pub task : task_of (task_names plan) name ≡ Some left.task
  pub is_left : IsLeft plan events left
  pub named : decimal_of number ≡ Some left.number

-- what is told of what the job is left to do
abbrev pub IsLeftTold : PlanView → Result (List Event) ScheduleFault → List ℕ → List ℕ → List ℕ → Type 0
IsLeftTold plan (Err fault) name number text = text ≡ []
IsLeftTold plan (Ok events) name number text =
    (text ≡ []) ⊎ ((left : Left) × IsLeftOf plan events name number left × (text ≡ left_text left))

-- of a schedule, where one is named
abbrev pub IsLeftIn : PlanView → Option (List ℕ) → List ℕ → List ℕ → List ℕ → Type 0
IsLeftIn plan None name number text = text ≡ []
IsLeftIn plan (Some schedule) name number text = IsLeftTold plan (schedule_of (task_names plan) schedule) name number text

-- this line of a text of processors is the first that places no task
pub record IsNoPlacing (plan : PlanView) (cores : List ℕ) (number at : ℕ) : Type 0 where
  pub refused : processors_of (task_names plan) cores ≡ Err (cores_faults.Syntax number)
  pub begins : IsLineStart cores number at

-- what is told of the line of a number
abbrev pub IsPlacingTold : PlanView → List ℕ → Option ℕ → List ℕ → Type 0
IsPlacingTold plan cores None text = text ≡ []
IsPlacingTold plan cores (Some number) text =
    (text ≡ [])
    ⊎ ((at : ℕ) × IsNoPlacing plan cores number at × (text ≡ placing_text (task_names plan) (without_return (line_rest cores at))))

-- of a text of processors, where one is named
abbrev pub IsPlacingIn : PlanView → Option (List ℕ) → List ℕ → List ℕ → Type 0
IsPlacingIn plan None argument text = text ≡ []
IsPlacingIn plan (Some cores) argument text = IsPlacingTold plan cores (decimal_of argument) text

-- the overload that three words tell: from when on, up to when, and what is asked
pub record IsOverloadOf (from to asked : List ℕ) (told : Overload) : Type 0 where
  pub from_is : decimal_of from ≡ Some told.from
  pub to_is : decimal_of to ≡ Some told.to
  pub asked_is : decimal_of asked ≡ Some told.demand

-- what is told of it: nothing, or the jobs that it is about
abbrev pub IsOverloadIn : PlanView → List ℕ → List ℕ → List ℕ → List ℕ → Type 0
IsOverloadIn plan from to asked text =
    (text ≡ []) ⊎ ((told : Overload) × IsOverloadOf from to asked told × IsOverloadTold plan told.from told.to told.demand text)

-- of a table, where one is named
abbrev pub IsTableIn : PlanView → Option (List ℕ) → List ℕ → Type 0
IsTableIn plan None text = text ≡ []
IsTableIn plan (Some table) text = IsTableTold plan table text
