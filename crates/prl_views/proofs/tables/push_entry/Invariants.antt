use Rattle.prl_base.proofs.Standard.{◌≡◌, ◌++◌, ◌-◌, flat_map, range_with_len}
use Rattle.prl_views.specs.Pieces.{entry_pieces, piece_if}
use Rattle.prl_views.proofs.tables.push_entry.Given as goal

-- the pieces so far and those of the jobs that are left are all pieces of the entry
abbrev pub invariant-loop-n : goal.invariant-loop-n
invariant-loop-n l =
    l.pieces.items ++ flat_map (piece_if l.plan.graph l.entry) (range_with_len l.n (l.last - l.n))
    ≡ l.initial.pieces.items ++ entry_pieces l.plan l.view l.entry
