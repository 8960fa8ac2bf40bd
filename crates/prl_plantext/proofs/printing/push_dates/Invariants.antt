use Rattle.std.proofs.Common.{◌≡◌, ◌++◌, drop}
use Rattle.prl_plantext.specs.PlanTexts.{numbered, dates_words}
use Rattle.prl_plantext.proofs.printing.push_dates.Given as goal

abbrev pub invariant-loop-i : goal.invariant-loop-i
invariant-loop-i l = l.text.items ++ numbered dates_words l.i (drop l.i l.plan.windows) ≡ l.initial.text.items ++ numbered dates_words 0 l.plan.windows
