-- What is told of an overload, from its parts.
use Rattle.std.proofs.Common.{◌≡◌, List, [], ℕ, inl, inr}
use Rattle.prl_plan.specs.Plans.{PlanView}
use Rattle.prl_overloads.specs.declared.overloads.Overload.{Overload}
use Rattle.prl_tablefaults.specs.LoadTexts.{IsOverloadTold}
use Rattle.prl_explain.specs.Details.{IsOverloadIn, IsOverloadOf}

pub overload_is : (plan : PlanView) (from to asked text : List ℕ) (told : Overload) → IsOverloadOf from to asked told
    → IsOverloadTold plan told.from told.to told.demand text → IsOverloadIn plan from to asked text
overload_is plan from to asked text told is_of is = inr (told, is_of, is)

pub no_overload : (plan : PlanView) (from to asked text : List ℕ) → text ≡ [] → IsOverloadIn plan from to asked text
no_overload plan from to asked text is = inl is
