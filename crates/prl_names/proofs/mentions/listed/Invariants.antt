use Rattle.std.proofs.Common.{◌≡◌, flat_map, map, take}
use Rattle.prl_names.specs.Mentions.{all_placed}
use Rattle.prl_names.proofs.mentions.listed.Given as goal

abbrev pub invariant-loop-all : goal.invariant-loop-all
invariant-loop-all g l = all_placed l.list.items ≡ flat_map (λ all. map g.T.Mentioned.placed all.now) (take l.all-index l.lists)
