-- Whether one processor can meet the dates of a program's plan with the WCETs.
use Rattle.std.specs.Prelude.{◌≡◌, ℕ, List}
use Rattle.prl_edf.specs.declared.analysis.Verdict.{Verdict}
use Rattle.prl_overlaps.specs.Demand.{wcets_of}
use Rattle.prl_edf.specs.Verdicts.{IsVerdict}
use Rattle.prl_edf.specs.VerdictTexts.{verdict_line}
use Rattle.prl_plan.specs.declared.horizons.Horizon.{Horizon}
use Rattle.prl_plan.specs.Horizons.{constants_of}
use Rattle.prl_plan.specs.Plans.{PlanView}
use Rattle.prl_stages.specs.Given.{Given}
use Rattle.prl_stages.specs.Scheduled.{HasHorizon}

-- The text is the line of a verdict on the jobs of the horizon, each with its WCET: the run by earliest deadline first, or the overloaded interval
-- that is told.
pub record IsEdfText (g : Given) (text : List ℕ) : Type 0 where
  pub plan : PlanView
  pub horizon : Horizon
  pub has_horizon : HasHorizon g plan horizon
  pub verdict : Verdict
  pub is_verdict : IsVerdict (constants_of plan horizon) (wcets_of plan) verdict
  pub written : text ≡ verdict_line horizon.jobs verdict
