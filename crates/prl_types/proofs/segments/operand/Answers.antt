use Rattle.std.proofs.Common.{◌∙◌, sym}
use Rattle.prl_types.proofs.Segmented.{operand_here, operand_later}
use Rattle.prl_types.proofs.segments.operand.Goals as goal

pub returns-in-Some : goal.returns-in-Some
returns-in-Some c = operand_here c.args.segments.now c.loop-segment.segment-index _ c.in-Some.term c.loop-segment-test.true (sym c.first.ensures ∙ c.in-Some.is) ∙ c.loop-segment.invariant

pub loop-segment-preserved : goal.loop-segment-preserved
loop-segment-preserved c = operand_later c.args.segments.now c.loop-segment.segment-index _ c.loop-segment-test.true (sym c.first.ensures ∙ c.in_default.is) ∙ c.loop-segment.invariant
