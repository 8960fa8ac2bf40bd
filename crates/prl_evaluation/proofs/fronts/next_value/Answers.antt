use Rattle.prl_evaluation.proofs.NextValue.{output_grows, output_ready, plain_grows, plain_there}
use Rattle.prl_evaluation.proofs.fronts.next_value.Goals as goal

pub output_value-requires : goal.output_value-requires
output_value-requires c =
    let (output, there, few, ready) = output_ready c.args.setting.now c.requires.set c.args.flows.now c.args.runs.now c.requires.under_way c.args.i c.requires.ready
    c.flows.result.now c.flows.ensures.flows c.index-flows-i.result c.index-flows-i.is c.count-n.result c.count-n.ensures
    c.in-Apply.app c.in-Apply.out c.in-Apply.is c.apps.result.now c.apps.ensures.apps c.index-apps-app.result c.index-apps-app.is
    c.as_slice-args.result.now c.as_slice-args.ensures c.index-runs-app.result c.index-runs-app.is in
    record { output = output; there = λ same. there; ready = ready; few = few }

pub plain_value-requires : goal.plain_value-requires
plain_value-requires c =
    let both = plain_there c.args.setting.now c.requires.set c.args.flows.now c.args.runs.now c.requires.under_way c.args.i c.requires.ready
    c.flows.result.now c.flows.ensures.flows c.index-flows-i.result c.index-flows-i.is c.count-n.result c.count-n.ensures c.in_default.not-Apply in
    record { plain = both.0; there = both.1 }

pub returns-in-Apply : goal.returns-in-Apply
returns-in-Apply c =
    output_grows c.args.setting.now c.requires.set c.args.flows.now c.args.runs.now c.requires.under_way c.args.i c.requires.ready
    c.flows.result.now c.flows.ensures.flows c.index-flows-i.result c.index-flows-i.is c.count-n.result c.count-n.ensures
    c.in-Apply.app c.in-Apply.out c.in-Apply.is c.apps.result.now c.apps.ensures.apps c.index-apps-app.result c.index-apps-app.is
    c.as_slice-args.result.now c.as_slice-args.ensures c.index-runs-app.result c.index-runs-app.is
    c.output_value.new.run c.output_value.result c.output_value.ensures.stepped c.output_value.ensures.kept c.output_value.ensures.value

pub returns-in_default : goal.returns-in_default
returns-in_default c =
    plain_grows c.args.setting.now c.requires.set c.args.flows.now c.args.runs.now c.requires.under_way c.args.i c.requires.ready
    c.flows.result.now c.flows.ensures.flows c.index-flows-i.result c.index-flows-i.is c.count-n.result c.count-n.ensures c.in_default.not-Apply
    c.plain_value.result (c.plain_value.ensures c.args.setting.now.flat.now c.args.setting.now.bodies.now)
