use Rattle.std.proofs.Common.{◌≡◌, ◌++◌, drop}
use Rattle.prl_names.specs.Vocabulary.{all_placed, merged}
use Rattle.prl_names.proofs.repeats.merged.Given as goal

abbrev pub invariant-loop-mention : goal.invariant-loop-mention
invariant-loop-mention l = all_placed l.list.items ++ merged (all_placed (drop l.mention-index l.mentions)) (all_placed l.rest) ≡ merged (all_placed l.mentions) (all_placed l.others)
