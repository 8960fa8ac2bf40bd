use Rattle.std.proofs.Common.{◌≡◌, ◌-◌, ◌++◌, drop, map, length}
use Rattle.prl_expand.specs.Vocabulary.{paired, flow_of, pairs_of}
use Rattle.prl_expand.proofs.variables.push_pairs.Given as goal

abbrev pub invariant-loop-k : goal.invariant-loop-k
invariant-loop-k l =
    pairs_of l.pairs.items ++ paired (drop l.k l.lefts) (map flow_of (drop l.k l.terms)) ≡ pairs_of l.initial.pairs.items ++ paired l.lefts (map flow_of l.terms)

abbrev pub decreases-loop-k : goal.decreases-loop-k
decreases-loop-k l = length l.lefts - l.k
