use Rattle.std.proofs.Common.{◌≡◌, take, drop, map, []}
use Rattle.prl_body.specs.Vocabulary.{checked_bodies, body_tree, text_tree}
use Rattle.prl_body.proofs.Lists.{added_to}
use Rattle.prl_body.proofs.program_bodies.checked_bodies.Given as goal

abbrev pub invariant-loop-k : goal.invariant-loop-k
invariant-loop-k l =
    added_to (map body_tree l.bodies.items) (checked_bodies l.directory.imports (map text_tree (take l.k l.directory.texts)) (map text_tree (drop l.k l.directory.texts)))
    ≡ checked_bodies l.directory.imports [] (map text_tree l.directory.texts)
