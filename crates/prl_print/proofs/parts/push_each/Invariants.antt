use Rattle.prl_base.proofs.Standard.{◌≡◌, ◌++◌, take, flat_map}
use Rattle.prl_print.proofs.parts.push_each.Given as goal

abbrev pub invariant-loop-part : goal.invariant-loop-part
invariant-loop-part g l = l.text.items ≡ l.initial.text.items ++ flat_map g.T.Part.printed (take l.part-index l.parts)
