use Rattle.std.proofs.Common.{◌≡◌, ◌++◌, drop}
use Rattle.prl_plantext.specs.PlanTexts.{numbered, task_words}
use Rattle.prl_plantext.proofs.printing.push_tasks.Given as goal

-- the lines so far and those of the tasks that are left are all lines
abbrev pub invariant-loop-k : goal.invariant-loop-k
invariant-loop-k l = l.text.items ++ numbered task_words l.k (drop l.k l.tasks) ≡ l.initial.text.items ++ numbered task_words 0 l.tasks
