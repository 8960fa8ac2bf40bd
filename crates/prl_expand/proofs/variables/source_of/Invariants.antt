use Rattle.std.proofs.Common.{◌≡◌, drop}
use Rattle.prl_expand.specs.Vocabulary.{source_of, pairs_of}
use Rattle.prl_expand.proofs.variables.source_of.Given as goal

abbrev pub invariant-loop-pair : goal.invariant-loop-pair
invariant-loop-pair l = source_of (pairs_of (drop l.pair-index l.pairs)) l.name ≡ source_of (pairs_of l.pairs) l.name
