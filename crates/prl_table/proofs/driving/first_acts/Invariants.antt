use Rattle.std.specs.Prelude.{◌≡◌, ℕ, Option, Some, length, slice_get}
use Rattle.prl_plan.specs.Horizons.{constants_of}
use Rattle.prl_tables.specs.Tables.{last_unit}
use Rattle.prl_table.specs.code.Driving.{next_act}
use Rattle.prl_table.proofs.driving.first_acts.Given as goal

-- what is noted of the tasks so far
abbrev pub invariant-loop-i : goal.invariant-loop-i
invariant-loop-i l = record {
  tasks : length l.next.items ≡ l.i;
  each : (i : ℕ) (first : Option ℕ) → slice_get l.next.items i ≡ Some first → first ≡ next_act (constants_of l.plan l.horizon) (last_unit l.plan.graph l.table.entries) i 0;
}
