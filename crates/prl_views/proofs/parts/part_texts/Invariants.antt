use Rattle.prl_base.proofs.Standard.{◌≡◌, take, flat_map}
use Rattle.prl_views.specs.Parts.{part_text}
use Rattle.prl_views.proofs.parts.part_texts.Given as goal

-- the parts that were passed
abbrev pub invariant-loop-part : goal.invariant-loop-part
invariant-loop-part l = l.text.items ≡ flat_map (part_text l.rows l.processors) (take l.part-index l.parts)
