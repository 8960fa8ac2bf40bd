use Rattle.std.proofs.Common.{◌≡◌, ◌++◌, replicate}
use Rattle.prl_words.proofs.steps.followed_by.Given as goal

abbrev pub invariant-loop : goal.invariant-loop
invariant-loop l = l.values.items ≡ l.fn.prefix ++ replicate l.counter l.c
