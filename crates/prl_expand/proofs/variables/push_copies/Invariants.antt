use Rattle.std.proofs.Common.{◌≡◌, ◌++◌, drop, map}
use Rattle.prl_expand.specs.Vocabulary.{copies, def_of, pairs_of}
use Rattle.prl_expand.proofs.variables.push_copies.Given as goal

abbrev pub invariant-loop-param : goal.invariant-loop-param
invariant-loop-param l =
    map def_of l.defs.items ++ copies (pairs_of l.pairs) (drop l.param-index l.params) ≡ map def_of l.initial.defs.items ++ copies (pairs_of l.pairs) l.params
