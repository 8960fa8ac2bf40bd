use Rattle.std.proofs.Common.{◌≡◌, ◌+◌, drop}
use Rattle.prl_shapes.specs.Views.{row_in}
use Rattle.prl_shapes.proofs.views.row_in.Given as goal

-- what was passed and the rest make the list
abbrev pub invariant-loop-i : goal.invariant-loop-i
invariant-loop-i l = l.i + row_in (drop l.i l.rows) l.task.0 ≡ row_in l.rows l.task.0
