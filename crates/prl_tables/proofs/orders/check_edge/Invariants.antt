use Rattle.std.specs.Prelude.{◌<◌, ℕ}
use Rattle.prl_tables.specs.Tables.{KeepsOrder}
use Rattle.prl_tables.proofs.orders.check_edge.Given as goal

-- the classes so far keep the order
abbrev pub invariant-loop-class : goal.invariant-loop-class
invariant-loop-class l = (d : ℕ) → d < l.class → KeepsOrder l.plan l.entries l.edge.0 d
