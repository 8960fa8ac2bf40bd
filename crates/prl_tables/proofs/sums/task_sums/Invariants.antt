use Rattle.std.specs.Prelude.{◌≡◌, ◌-◌, length, drop}
use Rattle.prl_tables.specs.Tables as tables
use Rattle.prl_tables.specs.code.Sums.{HasSums}
use Rattle.prl_tables.proofs.sums.task_sums.Given as goal

-- the sums of the last entries
abbrev pub invariant-loop-back : goal.invariant-loop-back
invariant-loop-back l = record {
  classes : length l.list.items ≡ tables.classes l.plan.graph l.task.0;
  sums : HasSums (drop (length l.entries - l.back) l.entries) l.task.0 l.list.items;
}
