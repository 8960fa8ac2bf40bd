use Rattle.std.proofs.Common.{ℕ, take, drop}
use Rattle.prl_words.specs.Vocabulary.{HaveCounts, IsSoFar}
use Rattle.prl_words.proofs.composing.composed.Given as goal

abbrev pub invariant-loop-op : goal.invariant-loop-op
invariant-loop-op l = (jobs : ℕ) → HaveCounts l.ops jobs → IsSoFar jobs (take l.op-index l.ops) (drop l.op-index l.ops) l.word
