-- What is told of what a job has left, and of a line that places no task.
use Rattle.std.proofs.Common.{◌≡◌, ℕ, List, [], Some, Ok, Err, inl, inr}
use Rattle.prl_base.specs.Decimals.{decimal_of}
use Rattle.prl_base.specs.declared.numbers.TaskNo.{TaskNo}
use Rattle.prl_schedules.specs.Vocabulary.{left_text, IsLeft}
use Rattle.prl_schedules.specs.declared.lefts.Left.{Left}
use Rattle.prl_cores.specs.declared.texts.CoresFault.TheVariants as cores_faults
use Rattle.prl_cores.specs.Processors.{processors_of}
use Rattle.prl_plan.specs.Plans.{PlanView}
use Rattle.prl_plan.specs.declared.events.Event.{Event}
use Rattle.prl_schedules.specs.Vocabulary.{task_of, without_return, task_names}
use Rattle.prl_spots.specs.Places.{IsLineStart, line_rest}
use Rattle.prl_explain.specs.Details.{IsLeftTold, IsPlacingTold}
use Rattle.prl_explain.specs.Placings.{placing_text}

pub left_is : (plan : PlanView) (events : List Event) (name number : List ℕ) (task : TaskNo) (left : Left) (text : List ℕ)
    → task_of (task_names plan) name ≡ Some task → left.task ≡ task → IsLeft plan events left → decimal_of number ≡ Some left.number → text ≡ left_text left
    → IsLeftTold plan (Ok events) name number text
left_is plan events name number task left text named same is_left numbered is =
    inr (left, record { task = rw same named; is_left = is_left; named = numbered }, is)

pub nothing_left : (plan : PlanView) (events : List Event) (name number text : List ℕ) → text ≡ [] → IsLeftTold plan (Ok events) name number text
nothing_left plan events name number text is = inl is

pub placing_is : (plan : PlanView) (cores : List ℕ) (number at : ℕ) (text : List ℕ) → processors_of (task_names plan) cores ≡ Err (cores_faults.Syntax number)
    → IsLineStart cores number at → text ≡ placing_text (task_names plan) (without_return (line_rest cores at)) → IsPlacingTold plan cores (Some number) text
placing_is plan cores number at text refused begins is = inr (at, record { refused = refused; begins = begins }, is)

pub no_placing : (plan : PlanView) (cores : List ℕ) (number : ℕ) (text : List ℕ) → text ≡ [] → IsPlacingTold plan cores (Some number) text
no_placing plan cores number text is = inl is
