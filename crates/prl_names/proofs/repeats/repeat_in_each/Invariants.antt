use Rattle.prl_base.proofs.Standard.{◌≡◌, drop, map, option_map}
use Rattle.prl_names.specs.Vocabulary.{placed_of, earliest_repeat}
use Rattle.prl_names.proofs.repeats.repeat_in_each.Given as goal

abbrev pub invariant-loop-one : goal.invariant-loop-one
invariant-loop-one g l = earliest_repeat (option_map placed_of l.first) (map g.T.Spaced.space (drop l.one-index l.all)) ≡ earliest_repeat (option_map placed_of l.initial.first) (map g.T.Spaced.space l.all)
