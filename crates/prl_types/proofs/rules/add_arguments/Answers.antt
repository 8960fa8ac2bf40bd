use Rattle.std.proofs.Common.{◌∙◌}
use Rattle.prl_types.proofs.Segmented.{arguments_step, arguments_done}
use Rattle.prl_types.proofs.rules.add_arguments.Goals as goal

pub loop-segment-preserved : goal.loop-segment-preserved
loop-segment-preserved c = (
  c.in_ok-add_segment.ensures.count ∙ c.loop-segment.invariant.0,
  arguments_step c.loop-segment.rules.rules c.add_segment.new.rules.rules c.loop-segment.rest.now c.after-rest.result.now c.args.segments.now c.loop-segment.segment-index c.len.result _
      c.loop-segment-test.true c.in_ok-add_segment.ensures.rules c.len.ensures c.after-rest.ensures
      ∙ c.loop-segment.invariant.1,
)

pub returns-clause-rules : goal.returns-clause-rules
returns-clause-rules c = arguments_done c.loop-segment.rules.rules _ c.loop-segment.rest.now c.args.segments.now c.loop-segment.segment-index c.loop-segment-test.false c.loop-segment.invariant.1
