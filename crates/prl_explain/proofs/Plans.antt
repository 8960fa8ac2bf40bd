-- The plan of a program, by the same bytes and the same name.
use Rattle.std.proofs.Common.{◌≡◌, ℕ, List, Option, Some, Result, Ok, Err, IfOk, subst}
use Rattle.prl_plan.specs.Plans.{PlanView}
use Rattle.prl_stages.specs.Vocabulary.{IsPlanOrNone, program_alone}
use Rattle.prl_explain.specs.Details.{IsPlanOf}

pub plan_is : {E : Type 0} (program bytes : List ℕ) (asked name : Option (List ℕ)) (found : Result (Option PlanView) E) → bytes ≡ program → name ≡ asked
    → IfOk found (IsPlanOrNone (program_alone bytes name)) → IfOk found (IsPlanOf (Some program) asked)
plan_is program bytes asked name (Ok found) same named is =
    subst (λ (ws : List ℕ). IsPlanOrNone (program_alone ws asked) found) same
    (subst (λ (n : Option (List ℕ)). IsPlanOrNone (program_alone bytes n) found) named is)
plan_is program bytes asked name (Err fault) same named is = tt
