use Rattle.std.proofs.Common.{◌≡◌, drop}
use Rattle.prl_spots.specs.Names.{first_named}
use Rattle.prl_spots.proofs.names.first_named.Given as goal

-- the tokens that were passed have another text
abbrev pub invariant-loop-token : goal.invariant-loop-token
invariant-loop-token l = first_named l.text (drop l.token-index l.tokens) l.name ≡ first_named l.text l.tokens l.name
