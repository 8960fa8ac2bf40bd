use Rattle.prl_base.proofs.Standard.{◌≡◌, ◌++◌, take, flat_map}
use Rattle.prl_page.specs.Pages.{part_text}
use Rattle.prl_page.proofs.pages.push_parts.Given as goal

abbrev pub invariant-loop-part : goal.invariant-loop-part
invariant-loop-part l = l.text.items ≡ l.initial.text.items ++ flat_map part_text (take l.part-index l.parts)
