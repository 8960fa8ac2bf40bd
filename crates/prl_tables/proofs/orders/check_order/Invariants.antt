use Rattle.std.specs.Prelude.{◌<◌, ℕ}
use Rattle.prl_plan.specs.Plans.{edge_at}
use Rattle.prl_tables.specs.Tables.{classes, KeepsOrder}
use Rattle.prl_tables.proofs.orders.check_order.Given as goal

-- the edges so far keep the order
abbrev pub invariant-loop-e : goal.invariant-loop-e
invariant-loop-e l = (f d : ℕ) → f < l.e → d < classes l.plan.graph (edge_at l.plan.graph f).to.0 → KeepsOrder l.plan l.entries f d
