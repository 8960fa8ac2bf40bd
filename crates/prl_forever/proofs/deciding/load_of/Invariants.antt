use Rattle.std.specs.Prelude.{◌≡◌, ◌*◌}
use Rattle.prl_plan.specs.Vocabulary.{sum_below, task_at}
use Rattle.prl_tables.specs.Tables.{classes}
use Rattle.prl_forever.proofs.deciding.load_of.Given as goal

-- the load of the first tasks
abbrev pub invariant-loop-i : goal.invariant-loop-i
invariant-loop-i l = l.load ≡ sum_below (λ i. classes l.plan.graph i * (task_at l.plan.graph i).wcet) l.i
