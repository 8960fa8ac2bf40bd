use Rattle.prl_base.proofs.Standard.{◌≡◌, ◌++◌, take, flat_map}
use Rattle.prl_drawing.specs.Texts.{attribute_text}
use Rattle.prl_drawing.proofs.texts.push_all.Given as goal

abbrev pub invariant-loop-attribute : goal.invariant-loop-attribute
invariant-loop-attribute l = l.text.items ≡ l.initial.text.items ++ flat_map (λ one. attribute_text one.0.now one.1) (take l.attribute-index l.attributes)
