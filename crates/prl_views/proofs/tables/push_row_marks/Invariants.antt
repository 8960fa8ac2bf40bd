use Rattle.prl_base.proofs.Standard.{◌≡◌, ◌++◌, ◌-◌, flat_map, range_with_len}
use Rattle.prl_views.specs.Pieces.{done_text, row_marks}
use Rattle.prl_views.proofs.tables.push_row_marks.Given as goal

-- the marks so far and those of the jobs that are left are all marks of the row
abbrev pub invariant-loop-n : goal.invariant-loop-n
invariant-loop-n l =
    l.text.items ++ flat_map (done_text l.checked.plan l.view l.checked.entries l.row) (range_with_len l.n (l.last - l.n))
    ≡ l.initial.text.items ++ row_marks l.checked.plan l.view l.checked.entries l.row
