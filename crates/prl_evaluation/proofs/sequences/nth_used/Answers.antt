use Rattle.prl_base.proofs.Standard.{sym, ◌∙◌, ap}
use Rattle.prl_flow.specs.declared.programs.App.{App}
use Rattle.prl_evaluation.proofs.Groups.{applied_app, argument_within, defined_so}
use Rattle.prl_evaluation.proofs.sequences.nth_used.Goals as goal

pub returns-in-Apply : goal.returns-in-Apply
returns-in-Apply c =
    let p = c.args.flat.now in
    let defined = defined_so p c.args.i c.requires c.flows.result.now c.flows.ensures.flows c.index-flows-i.result c.index-flows-i.is _ c.in-Apply.is in
    let applied = applied_app p c.flows.ensures.well_formed c.args.i c.in-Apply.app c.in-Apply.out defined c.apps.result.now c.apps.ensures.apps c.index-apps-app.result c.index-apps-app.is in
    argument_within p c.flows.ensures.well_formed c.in-Apply.app c.index-apps-app.result applied c.as_slice.result.now (c.as_slice.ensures ∙ ap (λ (a : App). a.args) (sym c.index-apps-app.is)) c.args.n c.nth_argument.result c.nth_argument.ensures
