use Rattle.std.proofs.Common.{◌≡◌, ◌++◌, take}
use Rattle.prl_spots.specs.Places.{lead}
use Rattle.prl_spots.proofs.places.push_lead.Given as goal

-- what leads the mark below the bytes that were passed
abbrev pub invariant-loop-byte : goal.invariant-loop-byte
invariant-loop-byte l = l.text.items ≡ l.initial.text.items ++ lead (take l.byte-index l.front)
