use Rattle.std.proofs.Common.{◌≡◌, drop}
use Rattle.prl_body.specs.Bodies.{body_named}
use Rattle.prl_body.proofs.program_bodies.body_named.Given as goal

abbrev pub invariant-loop-body : goal.invariant-loop-body
invariant-loop-body l = body_named (drop l.body-index l.bodies) l.name ≡ body_named l.bodies l.name
