use Rattle.std.proofs.Common.{◌≡◌, map, take}
use Rattle.prl_flow.specs.Programs.{Device}
use Rattle.prl_calls.proofs.rows.input_names.Given as goal

-- the names of the devices so far
abbrev pub invariant-loop-k : goal.invariant-loop-k
invariant-loop-k l = l.names.items ≡ map (λ (d : Device). d.0) (take l.k l.flat.in_devices)
