use Rattle.prl_base.proofs.Standard.{◌≡◌, ◌++◌, take, flat_map}
use Rattle.prl_base.specs.Texts.{value_text}
use Rattle.prl_plantext.specs.PlanTexts.{after_blank}
use Rattle.prl_plantext.proofs.printing.push_values.Given as goal

abbrev pub invariant-loop-value : goal.invariant-loop-value
invariant-loop-value l = l.text.items ≡ l.initial.text.items ++ flat_map (λ v. after_blank (value_text v)) (take l.value-index l.values)
