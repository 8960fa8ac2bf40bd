use Rattle.prl_base.proofs.Standard.{◌≡◌, ◌++◌, [], All, map}
use Rattle.prl_times.specs.Rows.{about, tasks_to, IsRow}
use Rattle.prl_times.proofs.collected.push_tasks.Given as goal

abbrev pub invariant-loop-i : goal.invariant-loop-i
invariant-loop-i l =
    (map about l.rows.items ≡ map about l.fn.rows.items ++ tasks_to l.i)
    × (All (IsRow l.plan [] l.fn.horizon.until) l.fn.rows.items → All (IsRow l.plan [] l.fn.horizon.until) l.rows.items)
