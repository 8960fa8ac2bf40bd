-- What a board keeps beside what is seen of it.
use Rattle.std.specs.Prelude.{◌≡◌, ℕ, List}
use Rattle.prl_plan.specs.Horizons.{IsHorizon}
use Rattle.prl_track.specs.declared.routes.Access.{Access}
use Rattle.prl_track.specs.Routes.{AreRoutes}
use Rattle.prl_values.specs.Fitting.{HaveTaskBodies, HaveTypedRows}
use Rattle.prl_rule.specs.declared.views.Constants.{Constants}
use Rattle.prl_rule.specs.Agreement.{word_count}
use Rattle.prl_rule.specs.Known.{run_of}

-- the horizon is one of the plan, each node task has a body that fits it and each sensor its rows, the table has a
-- word for each use, no slot, and was told of just this run, and the routes are those of the plan's tasks
pub record IsBoard (k key : Constants) (words slots : ℕ) (routes : List (List Access)) : Type 0 where
  pub horizon : IsHorizon k.plan k.horizon
  pub bodies : HaveTaskBodies k.plan.graph k.bodies
  pub rows : HaveTypedRows k.plan.graph k.horizon.until k.sensors
  pub sized : words ≡ word_count (run_of k)
  pub plain : slots ≡ 0
  pub keyed : key ≡ k
  pub routed : AreRoutes k.plan.graph routes
