use Rattle.std.proofs.Common.{take}
use Rattle.prl_schedules.specs.Vocabulary.{names_of, AreNumbers}
use Rattle.prl_schedules.proofs.numbers.numbers_of.Given as goal

abbrev pub invariant-loop-k : goal.invariant-loop-k
invariant-loop-k l = AreNumbers l.table (names_of (take l.k l.tasks))
