use Rattle.std.specs.Prelude.{All}
use Rattle.prl_spots.specs.Unexpected.{MayStand}
use Rattle.prl_spots.proofs.unexpected.standing.Given as goal

-- each of the words so far may stand there
abbrev pub invariant-loop-row : goal.invariant-loop-row
invariant-loop-row l = All (λ t. MayStand l.text l.at t.word.now) l.standing.items
