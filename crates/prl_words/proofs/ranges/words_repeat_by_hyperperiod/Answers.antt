use Rattle.prl_words.proofs.WordPeriods.{words_repeat, step_within, number_within_date}
use Rattle.prl_words.proofs.ranges.words_repeat_by_hyperperiod.Goals as goal

pub returns : goal.returns
returns c = record { repeats = words_repeat; step = step_within; numbers = number_within_date }
