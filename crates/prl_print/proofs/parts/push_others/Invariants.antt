use Rattle.prl_base.proofs.Standard.{◌≡◌, ◌++◌, take, map, flat_map}
use Rattle.prl_print.proofs.parts.push_others.Given as goal

abbrev pub invariant-loop-part : goal.invariant-loop-part
invariant-loop-part g l = l.text.items ≡ l.initial.text.items ++ flat_map (λ other. l.between ++ other) (map g.T.Part.printed (take l.part-index l.parts))
