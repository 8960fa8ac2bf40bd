use Rattle.std.proofs.Common.{◌≡◌, take, drop}
use Rattle.prl_names.specs.Vocabulary.{names_in, all_placed, AreIndices, repeat_after, repeat_in}
use Rattle.prl_names.proofs.repeats.repeat_in.Given as goal

abbrev pub invariant-loop-k : goal.invariant-loop-k
invariant-loop-k l = record { indices : AreIndices l.seen (names_in (take l.k l.space)); rest : repeat_after (names_in (take l.k l.space)) (all_placed (drop l.k l.space)) ≡ repeat_in (all_placed l.space) }
