use Rattle.std.proofs.Common.{◌≡◌, ◌++◌, drop}
use Rattle.prl_steps.specs.Steps.{seen_steps}
use Rattle.prl_steps.proofs.steps.seen_steps.Given as goal

-- the steps so far and those of the samples that are left are all
abbrev pub invariant-loop-i : goal.invariant-loop-i
invariant-loop-i l = l.steps.items ++ seen_steps l.scale (drop l.i l.samples) ≡ seen_steps l.scale l.samples
