use Rattle.prl_base.proofs.Standard.{◌≡◌, flat_map, take}
use Rattle.prl_views.specs.Pieces.{entry_pieces}
use Rattle.prl_views.proofs.tables.pieces_of.Given as goal

-- the pieces of the entries that were passed
abbrev pub invariant-loop-entry : goal.invariant-loop-entry
invariant-loop-entry l = l.pieces.items ≡ flat_map (entry_pieces l.plan l.view) (take l.entry-index l.entries)
