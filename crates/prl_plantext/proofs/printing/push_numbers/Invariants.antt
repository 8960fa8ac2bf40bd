use Rattle.prl_base.proofs.Standard.{◌≡◌, ◌++◌, take, decimal, flat_map}
use Rattle.prl_plantext.specs.PlanTexts.{after_blank}
use Rattle.prl_plantext.proofs.printing.push_numbers.Given as goal

abbrev pub invariant-loop-number : goal.invariant-loop-number
invariant-loop-number l = l.text.items ≡ l.initial.text.items ++ flat_map (λ n. after_blank (decimal n)) (take l.number-index l.numbers)
