use Rattle.std.proofs.Common.{◌++◌, ◌∙◌, ◌+◌, drop, ap, List}
use Rattle.prl_types.specs.Vocabulary.{Segment, placed, terms_in, flows_in}
use Rattle.prl_types.proofs.Segmented.{flows_push}
use Rattle.prl_types.proofs.segments.add_flows.Goals as goal

pub loop-segment-preserved : goal.loop-segment-preserved
loop-segment-preserved c =
    let later = placed c.args.at (terms_in (drop (c.loop-segment.segment-index + 1) c.args.segments.now)) in
    ap (λ (list : List Segment). flows_in list ++ later) c.in_ok-push.ensures.items
    ∙ flows_push c.loop-segment.list.items c.args.segments.now c.loop-segment.segment-index _ c.args.at c.loop-segment-test.true
    ∙ c.loop-segment.invariant
