use Rattle.std.proofs.Common.{◌≡◌, drop, map}
use Rattle.prl_body.specs.Checks.{all_there, body_tree}
use Rattle.prl_body.proofs.program_bodies.all_there.Given as goal

abbrev pub invariant-loop-name : goal.invariant-loop-name
invariant-loop-name l = all_there (map body_tree l.bodies) (drop l.name-index l.used) ≡ all_there (map body_tree l.bodies) l.used
