use Rattle.prl_base.proofs.Standard.{◌≡◌, ◌++◌, take, flat_map}
use Rattle.prl_nearest.specs.Nearest.{name_text}
use Rattle.prl_nearest.proofs.told.push_each.Given as goal

-- the nodes so far stand in the text
abbrev pub invariant-loop-node : goal.invariant-loop-node
invariant-loop-node l = l.told.items ≡ l.initial.told.items ++ flat_map name_text (take l.node-index l.nodes)
