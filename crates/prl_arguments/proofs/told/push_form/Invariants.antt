use Rattle.prl_base.proofs.Standard.{◌≡◌, ◌++◌, take, flat_map}
use Rattle.prl_arguments.specs.Wrong.{shown}
use Rattle.prl_arguments.specs.WrongTexts.{said}
use Rattle.prl_arguments.proofs.told.push_form.Given as goal

-- what the bytes so far say stands in the text
abbrev pub invariant-loop-byte : goal.invariant-loop-byte
invariant-loop-byte l = l.told.items ≡ l.initial.told.items ++ flat_map (said l.mode (shown l.wrong)) (take l.byte-index l.form)
