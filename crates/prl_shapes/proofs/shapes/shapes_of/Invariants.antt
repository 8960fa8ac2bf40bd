use Rattle.prl_base.proofs.Standard.{◌≡◌, ◌++◌, ◌-◌, length, flat_map, range_with_len}
use Rattle.prl_shapes.specs.Shapes.{shapes_of, shapes_of_row}
use Rattle.prl_shapes.proofs.shapes.shapes_of.Given as goal

-- the jobs so far and those of the rows that are left are all jobs
abbrev pub invariant-loop-row : goal.invariant-loop-row
invariant-loop-row l =
    l.shapes.items ++ flat_map (shapes_of_row l.plan l.shown l.view) (range_with_len l.row (length l.view.rows - l.row))
    ≡ shapes_of l.plan l.shown l.view
