use Rattle.prl_plan.proofs.OnePlan.{words_are_one}
use Rattle.prl_words.proofs.WordsEnd.{words_or_fault, no_fault, one_fault}
use Rattle.prl_words.proofs.laws.words_end_one_way.Goals as goal

pub returns : goal.returns
returns c = record { end = words_or_fault; one_list = words_are_one; not_both = no_fault; one_fault = one_fault }
