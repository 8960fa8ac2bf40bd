use Rattle.std.proofs.Common.{◌≡◌, drop, false}
use Rattle.prl_spots.specs.Names.{declared_from}
use Rattle.prl_spots.proofs.names.declared_of.Given as goal

-- the tokens that are left lead to the same ones
abbrev pub invariant-loop-i : goal.invariant-loop-i
invariant-loop-i l =
    declared_from l.text l.name l.declares (drop l.i l.tokens) ≡ declared_from l.text l.name false l.tokens
