use Rattle.std.proofs.Common.{◌≡◌, ◌++◌, drop, take}
use Rattle.prl_values.specs.JobValues.{word_of}
use Rattle.prl_values.proofs.making.word_of.Given as goal

-- no byte so far is `@`
abbrev pub invariant-loop-i : goal.invariant-loop-i
invariant-loop-i l = take l.i l.name ++ word_of (drop l.i l.name) ≡ word_of l.name
