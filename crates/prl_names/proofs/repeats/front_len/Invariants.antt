use Rattle.std.proofs.Common.{◌≡◌, ◌++◌, drop, take}
use Rattle.prl_names.specs.Vocabulary.{all_placed, front_before, rest_from}
use Rattle.prl_names.proofs.repeats.front_len.Given as goal

abbrev pub invariant-loop-k : goal.invariant-loop-k
invariant-loop-k l = record {
  front : all_placed (take l.k l.others) ++ front_before l.at (all_placed (drop l.k l.others)) ≡ front_before l.at (all_placed l.others);
  rest : rest_from l.at (all_placed (drop l.k l.others)) ≡ rest_from l.at (all_placed l.others);
}
