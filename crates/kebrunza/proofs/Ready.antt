-- What a run needs has its horizon.
use Rattle.prl_base.proofs.Standard.{sym, subst}
use Rattle.prl_plan.specs.Horizons.{IsHorizon}
use Rattle.prl_stages.specs.Given.{Given}
use Rattle.prl_executions.specs.Ready.{IsReady}
use Rattle.prl_executions.specs.declared.ready.Ready.{Ready}

pub ready_has_horizon : (g : Given) (r : Ready) → IsReady g r → IsHorizon r.plan r.horizon
ready_has_horizon g r ready = subst (λ (x : Ready). IsHorizon x.plan x.horizon) (sym ready.made) ready.execution.has_horizon.is_horizon
