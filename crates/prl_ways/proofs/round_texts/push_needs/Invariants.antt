use Rattle.prl_base.proofs.Standard.{◌≡◌, ◌++◌, take, flat_map}
use Rattle.prl_ways.specs.RoundTexts.{need_text}
use Rattle.prl_ways.proofs.round_texts.push_needs.Given as goal

-- the flows so far stand in the text
abbrev pub invariant-loop-flow : goal.invariant-loop-flow
invariant-loop-flow l = l.text.items ≡ l.initial.text.items ++ flat_map (need_text l.flat) (take l.flow-index l.flows)
