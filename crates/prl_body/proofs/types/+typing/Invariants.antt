use Rattle.std.proofs.Common.{◌≡◌, drop}
use Rattle.prl_body.specs.Vocabulary.{pair_trees, typed_rights}
use Rattle.prl_body.proofs.Typing.{prepended}
use Rattle.prl_body.proofs.types.+typing.Given as goal

abbrev pub invariant-typed_rights-loop-pair : goal.invariant-typed_rights-loop-pair
invariant-typed_rights-loop-pair l =
    prepended l.typed_ones.items (typed_rights l.scope.ins l.scope.registers l.ty (pair_trees (drop l.pair-index l.rights)))
    ≡ typed_rights l.scope.ins l.scope.registers l.fn.left (pair_trees l.rights)
