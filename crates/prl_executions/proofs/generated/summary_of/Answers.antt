use Rattle.prl_base.proofs.Standard.{◌∙◌, ap, length, rules, to_z-of_z, w128}
use mir.Val.{SFits}
use Rattle.prl_stages.specs.Ran.{summary_line}
use Rattle.prl_rule.specs.declared.views.Gate.TheVariants as gates
use Rattle.prl_calls.specs.Stops.{given_of}
use Rattle.prl_executions.proofs.Preparing.{ShownLaws, known_of}
use Rattle.prl_executions.proofs.Summaries.{summary_is}
use Rattle.prl_executions.proofs.generated.summary_of.Goals as goal

pub returns : goal.returns
returns c =
    let r = c.args.ready.now in
    let law : ShownLaws = record { flows = c.ended_boards_show_flows.ensures.flows; up_to = c.ended_boards_show_flows.ensures.up_to } in
    let closed = c.in_ok-closed.closed in
    let its = c.in_ok-closed.ensures.known in
    let sum = c.in_ok-sum.ensures in
    let fits : SFits w128 c.in_ok-sum.sum = search rules in
    summary_is (given_of c.args.request.now) r c.requires law closed its c.in_ok-closed.ensures.ended (c.stands.ensures (known_of r gates.Gated) its)
    c.in_ok-trace.trace.reads c.in_ok-trace.trace.outputs c.in_ok-trace.ensures sum.0 sum.1 c.args.seed c.args.size c.len-reads.result c.in_ok-sum.sum
    c.in_ok-text.text.items c.len-reads.ensures sum.2
    (c.in_ok-text.ensures
    ∙ ap (summary_line c.args.seed c.args.size (length r.plan.graph.tasks) (length r.plan.graph.edges) r.horizon.jobs c.len-reads.result)
    (to_z-of_z w128 c.in_ok-sum.sum fits))
