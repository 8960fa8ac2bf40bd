use Rattle.prl_base.proofs.Standard.{◌≡◌, take, flat_map}
use Rattle.prl_executions.specs.code.Numbered.{numbered}
use Rattle.prl_executions.proofs.lines.numbered.Given as goal

-- the names so far, with their numbers
abbrev pub invariant-loop-one : goal.invariant-loop-one
invariant-loop-one l = l.text.items ≡ flat_map (λ one. numbered one.0.now one.1) (take l.one-index l.numbers)
