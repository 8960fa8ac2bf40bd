use Rattle.std.specs.Prelude.{◌<◌, ℕ}
use Rattle.prl_tables.specs.Tables.{IsWhole}
use Rattle.prl_tables.proofs.sums.check_task.Given as goal

-- the classes so far are whole
abbrev pub invariant-loop-c : goal.invariant-loop-c
invariant-loop-c l = (d : ℕ) → d < l.c → IsWhole l.plan l.entries l.task.0 d
