use Rattle.std.proofs.Common.{◌≡◌, length}
use Rattle.prl_evaluation.specs.code.Wholes.{AreFlows, AreVisited}
use Rattle.prl_evaluation.proofs.sequences.along_uses.Given as goal

abbrev pub invariant-loop-i : goal.invariant-loop-i
invariant-loop-i l = (length l.seen.items ≡ length l.flat.flows) × AreVisited l.flat l.stack.items × AreFlows l.flat l.sequence.items
