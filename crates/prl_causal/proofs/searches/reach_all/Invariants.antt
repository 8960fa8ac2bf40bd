use Rattle.std.proofs.Common.{take}
use Rattle.prl_causal.specs.Vocabulary.{Adds, IsAmong}
use Rattle.prl_causal.proofs.searches.reach_all.Given as goal

abbrev pub invariant-loop-arg : goal.invariant-loop-arg
invariant-loop-arg l = Adds (IsAmong (take l.arg-index l.args)) l.initial.reached.items l.reached.items l.initial.marks l.marks
