-- Texts that are those of plans.
use Rattle.std.specs.Prelude.{◌≡◌, ℕ, List}
use Rattle.prl_plan.specs.Plans.{PlanView, IsPlan}
use Rattle.prl_plan.specs.Representable.{IsRepresentable}
use Rattle.prl_plantext.specs.PlanTexts.{plan_text}
use Rattle.prl_plantext.specs.declared.plans.PlanFault.{PlanFault}
use Rattle.prl_plantext.specs.declared.plans.PlanFault.TheVariants as faults

-- the text is that of this plan, and the types of graphs can hold the plan's graph
pub record IsTextOf (plan : PlanView) (text : List ℕ) : Type 0 where
  pub planned : IsPlan plan
  pub held : IsRepresentable plan.graph
  pub printed : plan_text plan ≡ text

-- the text is that of no plan; want of memory is free
abbrev pub IsTextFault : List ℕ → PlanFault → Type 0
IsTextFault text faults.NotPlan = (plan : PlanView) → IsTextOf plan text → ⊥
IsTextFault text faults.Memory = Unit {0}
