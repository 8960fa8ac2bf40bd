use Rattle.std.specs.Prelude.{◌≡◌, ◌-◌, drop, length}
use Rattle.prl_table.specs.Made.{greatest_start}
use Rattle.prl_steady.proofs.lasting.greatest_start.Given as goal

-- the greatest start of the last tasks
abbrev pub invariant-loop-back : goal.invariant-loop-back
invariant-loop-back l = l.greatest ≡ greatest_start (drop (length l.tasks - l.back) l.tasks)
