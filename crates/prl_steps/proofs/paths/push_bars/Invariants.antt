use Rattle.prl_base.proofs.Standard.{◌≡◌, ◌++◌, take, flat_map}
use Rattle.prl_steps.specs.Paths.{bar_text}
use Rattle.prl_steps.proofs.paths.push_bars.Given as goal

-- the bars that were passed
abbrev pub invariant-loop-bar : goal.invariant-loop-bar
invariant-loop-bar l = l.text.items ≡ l.initial.text.items ++ flat_map (bar_text l.pane) (take l.bar-index l.bars)
