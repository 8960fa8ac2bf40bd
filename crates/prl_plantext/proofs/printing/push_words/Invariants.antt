use Rattle.std.proofs.Common.{◌≡◌, ◌++◌, drop}
use Rattle.prl_plantext.specs.PlanTexts.{numbered, word_words}
use Rattle.prl_plantext.proofs.printing.push_words.Given as goal

abbrev pub invariant-loop-e : goal.invariant-loop-e
invariant-loop-e l = l.text.items ++ numbered word_words l.e (drop l.e l.words) ≡ l.initial.text.items ++ numbered word_words 0 l.words
