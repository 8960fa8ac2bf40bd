use Rattle.prl_base.proofs.Standard.{◌≡◌, ◌++◌, take, flat_map}
use Rattle.prl_ways.specs.ChainTexts.{more_text}
use Rattle.prl_ways.proofs.chain_texts.push_more.Given as goal

-- the jobs so far stand in the text
abbrev pub invariant-loop-job : goal.invariant-loop-job
invariant-loop-job l = l.text.items ≡ l.initial.text.items ++ flat_map (more_text l.graph) (take l.job-index l.jobs)
