-- What is told of the event of a line.
use Rattle.std.proofs.Common.{◌≡◌, ◌≢◌, ◌-◌, ℕ, zero, suc, List, Option, Some, arith, refl, subst}
use Rattle.prl_schedules.specs.Causes.{IsFinding}
use Rattle.prl_schedules.specs.declared.causes.Finding.{Finding}
use Rattle.prl_plan.specs.Plans.{PlanView}
use Rattle.prl_plan.specs.declared.events.Event.{Event}
use Rattle.prl_plan.specs.declared.events.Rule.{Rule}
use Rattle.prl_explain.specs.Details.{IsOfLine, found_text}

-- what was found of the event before a line's number is what is told of the line
pub line_is : (plan : PlanView) (events : List Event) (line : ℕ) (rule : Rule) (text : List ℕ) (number : Option ℕ) (found : Option Finding) → number ≡ Some line →
    line ≢ 0 → IsFinding plan events (line - 1) rule found → text ≡ found_text plan found → IsOfLine plan events number rule text
line_is plan events line rule text number found at some is told =
    rw at (by_line line some is)
  where
    by_line : (line : ℕ) → line ≢ 0 → IsFinding plan events (line - 1) rule found → IsOfLine plan events (Some line) rule text
    by_line zero some is = absurd (some refl)
    by_line (suc index) some is =
        (found, subst (λ (n : ℕ). IsFinding plan events n rule found) (let same : suc index - 1 ≡ index = omega arith in same) is, told)
