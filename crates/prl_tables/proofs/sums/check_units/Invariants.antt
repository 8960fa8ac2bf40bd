use Rattle.std.specs.Prelude.{◌<◌, ℕ}
use Rattle.prl_tables.specs.Tables.{classes, IsWhole}
use Rattle.prl_tables.proofs.sums.check_units.Given as goal

-- the classes of the tasks so far are whole
abbrev pub invariant-loop-i : goal.invariant-loop-i
invariant-loop-i l = (j d : ℕ) → j < l.i → d < classes l.plan.graph j → IsWhole l.plan l.entries j d
