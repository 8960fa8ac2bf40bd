use Rattle.prl_base.proofs.Standard.{◌≡◌, ◌++◌, ◌-◌, length, flat_map, range_with_len}
use Rattle.prl_views.specs.Pieces.{marks_text, row_marks}
use Rattle.prl_views.proofs.tables.all_marks.Given as goal

-- the marks so far and those of the rows that are left are all marks
abbrev pub invariant-loop-row : goal.invariant-loop-row
invariant-loop-row l =
    l.text.items ++ flat_map (row_marks l.checked.plan l.view l.checked.entries) (range_with_len l.row (length l.view.rows - l.row))
    ≡ marks_text l.checked.plan l.view l.checked.entries
