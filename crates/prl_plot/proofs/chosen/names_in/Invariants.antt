use Rattle.std.proofs.Common.{◌≡◌, ◌||◌, List, ℕ, length}
use Rattle.std.specs.Option.{is_some}
use Rattle.prl_plot.specs.Asked.{is_named}
use Rattle.prl_plot.specs.Places.{at_bytes}
use Rattle.prl_plot.proofs.chosen.names_in.Given as goal

-- each name of the list is in the table or in the rest
abbrev pub invariant-loop-table : goal.invariant-loop-table
invariant-loop-table l = (name : List ℕ) → (is_some (at_bytes l.table name) || is_named l.rest name) ≡ is_named l.names name

abbrev pub decreases-loop-table : goal.decreases-loop-table
decreases-loop-table l = length l.rest
