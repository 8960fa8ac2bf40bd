use Rattle.std.proofs.Common.{◌≡◌, drop, false}
use Rattle.prl_spots.specs.Names.{first_used}
use Rattle.prl_spots.proofs.names.first_used.Given as goal

-- the tokens that were passed lie in no node, or have another text
abbrev pub invariant-loop-token : goal.invariant-loop-token
invariant-loop-token l =
    first_used l.text l.name l.in_node l.imported (drop l.token-index l.tokens) ≡ first_used l.text l.name false false l.tokens
