-- The laws of the crates below on which it rests that a plan has one table, or one fault of making.
use Rattle.std.specs.Prelude.{◌≡◌, ℕ, Option}
use Rattle.prl_base.specs.declared.limits.Limit.{Limit}
use Rattle.prl_edf.specs.Vocabulary.{IsOverloaded, MeetsAllWindows, IsTimedRun, IsVerdict}
use Rattle.prl_edf.specs.declared.analysis.Verdict.{Verdict}
use Rattle.prl_plan.specs.Vocabulary.{HasPlanFacts, IsHorizon, IsPastLimit, constants_of, PlanView, IsPlan, RunConstants}
use Rattle.prl_plan.specs.declared.horizons.Horizon.{Horizon}

pub record MakeLaws : Type 0 where
  pub one_horizon : (plan : PlanView) (until : ℕ) (a b : Horizon) → IsHorizon plan a → IsHorizon plan b → a.until ≡ until → b.until ≡ until → a ≡ b
  pub not_both : (plan : PlanView) (until : ℕ) (horizon : Horizon) (limit : Limit) → IsHorizon plan horizon → horizon.until ≡ until → IsPastLimit plan until limit → ⊥
  pub one_limit : (plan : PlanView) (until : ℕ) (a b : Limit) → IsPastLimit plan until a → IsPastLimit plan until b → a ≡ b
  pub facts : (plan : PlanView) (horizon : Horizon) → IsPlan plan → IsHorizon plan horizon → HasPlanFacts (constants_of plan horizon)
  pub overloaded : (c : RunConstants) (cost : ℕ → ℕ → ℕ) (run : ℕ → Option (ℕ × ℕ)) (a b : ℕ) → IsOverloaded c cost a b → IsTimedRun c cost run → MeetsAllWindows c cost run → ⊥
  pub one_verdict : (c : RunConstants) → HasPlanFacts c → (cost : ℕ → ℕ → ℕ) (verdict other : Verdict) → IsVerdict c cost verdict → IsVerdict c cost other → verdict ≡ other
