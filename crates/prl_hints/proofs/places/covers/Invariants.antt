use Rattle.std.proofs.Common.{◌≡◌, ◌-◌, length}
use Rattle.prl_hints.specs.Places.{covers}
use Rattle.prl_hints.proofs.places.covers.Given as goal

-- the word begins at none of the places that were passed
abbrev pub invariant-loop-passed : goal.invariant-loop-passed
invariant-loop-passed l = covers l.text l.at l.word (length l.word - l.passed) ≡ covers l.text l.at l.word (length l.word)
