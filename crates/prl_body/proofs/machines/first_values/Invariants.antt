use Rattle.std.proofs.Common.{◌≡◌, take}
use Rattle.prl_body.specs.Bodies.{first_values}
use Rattle.prl_body.proofs.machines.first_values.Given as goal

abbrev pub invariant-loop-register : goal.invariant-loop-register
invariant-loop-register l = l.values.items ≡ take l.register-index (first_values l.body)
