use Rattle.prl_base.proofs.Standard.{◌≡◌, ◌++◌, take, flat_map}
use Rattle.prl_spots.specs.Unexpected.{trial_text}
use Rattle.prl_spots.proofs.unexpected.push_each.Given as goal

-- the words so far stand in the text
abbrev pub invariant-loop-trial : goal.invariant-loop-trial
invariant-loop-trial l = l.told.items ≡ l.initial.told.items ++ flat_map trial_text (take l.trial-index l.trials)
