use Rattle.std.specs.Prelude.{⊤}
use Rattle.prl_spots.proofs.counts.of_import.Given as goal

-- nothing is kept: the loop ends at the first that has the name
abbrev pub invariant-loop-import : goal.invariant-loop-import
invariant-loop-import l = ⊤
