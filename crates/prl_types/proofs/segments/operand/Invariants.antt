use Rattle.std.proofs.Common.{◌≡◌, drop}
use Rattle.prl_types.specs.Vocabulary.{operand, terms_in}
use Rattle.prl_types.proofs.segments.operand.Given as goal

abbrev pub invariant-loop-segment : goal.invariant-loop-segment
invariant-loop-segment l = operand (terms_in (drop l.segment-index l.segments)) ≡ operand (terms_in l.segments)
