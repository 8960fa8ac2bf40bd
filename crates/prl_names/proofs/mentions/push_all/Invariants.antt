use Rattle.std.proofs.Common.{◌≡◌, ◌++◌, map, take}
use Rattle.prl_names.specs.Mentions.{all_placed}
use Rattle.prl_names.proofs.mentions.push_all.Given as goal

abbrev pub invariant-loop-one : goal.invariant-loop-one
invariant-loop-one g l = all_placed l.list.items ≡ all_placed l.initial.list.items ++ map g.T.Mentioned.placed (take l.one-index l.all)
