use Rattle.prl_base.proofs.Standard.{◌≡◌, ◌++◌, take, flat_map}
use Rattle.prl_plantext.specs.PlanTexts.{after_blank, operator_words}
use Rattle.prl_plantext.proofs.printing.push_operators.Given as goal

abbrev pub invariant-loop-op : goal.invariant-loop-op
invariant-loop-op l = l.text.items ≡ l.initial.text.items ++ flat_map after_blank (flat_map operator_words (take l.op-index l.ops))
