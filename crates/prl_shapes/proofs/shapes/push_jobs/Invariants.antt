use Rattle.prl_base.proofs.Standard.{◌≡◌, ◌++◌, ◌-◌, map, range_with_len}
use Rattle.prl_shapes.specs.Shapes.{shape_of, shapes_of_row}
use Rattle.prl_shapes.proofs.shapes.push_jobs.Given as goal

-- the jobs so far and those that are left are all jobs of the row
abbrev pub invariant-loop-n : goal.invariant-loop-n
invariant-loop-n l =
    l.shapes.items ++ map (shape_of l.plan l.shown l.view l.row) (range_with_len l.n (l.last - l.n))
    ≡ l.initial.shapes.items ++ shapes_of_row l.plan l.shown l.view l.row
