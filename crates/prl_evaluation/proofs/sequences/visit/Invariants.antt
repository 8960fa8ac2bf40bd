use Rattle.std.proofs.Common.{◌≡◌, length}
use Rattle.prl_evaluation.specs.code.Wholes.{AreFlows, AreVisited}
use Rattle.prl_evaluation.proofs.sequences.visit.Given as goal

abbrev pub invariant-loop : goal.invariant-loop
invariant-loop l = (length l.seen ≡ length l.flat.flows) × AreVisited l.flat l.stack.items × AreFlows l.flat l.sequence.items
