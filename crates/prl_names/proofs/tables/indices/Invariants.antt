use Rattle.std.proofs.Common.{take}
use Rattle.prl_names.specs.Vocabulary.{names_in, AreIndices}
use Rattle.prl_names.proofs.tables.indices.Given as goal

abbrev pub invariant-loop-k : goal.invariant-loop-k
invariant-loop-k l = AreIndices l.table (names_in (take l.k l.mentions))
