use Rattle.prl_base.proofs.Standard.{◌∙◌, inl, inr, refl, subst, sym, slice_get_within}
use Rattle.prl_evaluation.specs.Vocabulary.{IsFull}
use Rattle.prl_evaluation.proofs.Groups.{applied_app, defined_so, group_alone, group_outs}
use Rattle.prl_evaluation.proofs.wholes.fill_ready.Goals as goal

pub fill_alone-requires-clause-flow : goal.fill_alone-requires-clause-flow
fill_alone-requires-clause-flow c =
    defined_so c.args.setting.now.flat.now c.args.flow.0 c.requires.flow c.flows.result.now c.flows.ensures.flows c.index-flows-flow.result c.index-flows-flow.is _ refl

pub fill_alone-requires-clause-plain : goal.fill_alone-requires-clause-plain
fill_alone-requires-clause-plain c = elim c.in-Sensor.is [ inl is ↦ rw is.1 tt | inr is ↦ rw is.1 tt ]

pub fill_alone-requires-clause-group : goal.fill_alone-requires-clause-group
fill_alone-requires-clause-group c =
    group_alone c.args.setting.now c.requires.set c.args.flow.0 c.dates_before-number.result _ c.args.flows.now (fill_alone-requires-clause-flow c) c.dates_before-number.ensures.count (fill_alone-requires-clause-plain c)
    (λ j names. elim c.in-Sensor.is [ inl is ↦ absurd (rw is.1 at names) | inr is ↦ absurd (rw is.1 at names) ])

pub fill_after-requires-clause-flow : goal.fill_after-requires-clause-flow
fill_after-requires-clause-flow c =
    defined_so c.args.setting.now.flat.now c.args.flow.0 c.requires.flow c.flows.result.now c.flows.ensures.flows c.index-flows-flow.result c.index-flows-flow.is _ (sym c.in-Copy.def-is)

pub fill_after-requires-clause-used : goal.fill_after-requires-clause-used
fill_after-requires-clause-used c =
    let (flow, found, own) = fill_after-requires-clause-flow c in
    let defined = c.requires.set.flat.flows c.args.flow.0 flow found in
    elim c.in-Copy.is [
      | inl is ↦ let used = rw (own ∙ c.in-Copy.def-is ∙ is) at defined in slice_get_within c.args.setting.now.flat.now.flows c.in-Copy.of.0 used.0 used.1
      | inr is ↦ let used = rw (own ∙ c.in-Copy.def-is ∙ is.1) at defined in slice_get_within c.args.setting.now.flat.now.flows c.in-Copy.of.0 used.0.0 used.0.1
    ]

pub fill_after-requires-clause-plain : goal.fill_after-requires-clause-plain
fill_after-requires-clause-plain c = elim c.in-Copy.is [ inl is ↦ rw (c.in-Copy.def-is ∙ is) tt | inr is ↦ rw (c.in-Copy.def-is ∙ is.1) tt ]

pub fill_after-requires-clause-group : goal.fill_after-requires-clause-group
fill_after-requires-clause-group c = λ full.
    group_alone c.args.setting.now c.requires.set c.args.flow.0 c.dates_before-number.result _ c.args.flows.now (fill_after-requires-clause-flow c) c.dates_before-number.ensures.count (fill_after-requires-clause-plain c)
    (λ j names. subst (IsFull c.args.setting.now c.args.flows.now) (elim c.in-Copy.is [ inl is ↦ rw (c.in-Copy.def-is ∙ is) at names | inr is ↦ rw (c.in-Copy.def-is ∙ is.1) at names ]) full)

pub fill_outputs-requires-clause-within : goal.fill_outputs-requires-clause-within
fill_outputs-requires-clause-within c =
    let defined = defined_so c.args.setting.now.flat.now c.args.flow.0 c.requires.flow c.flows.result.now c.flows.ensures.flows c.index-flows-flow.result c.index-flows-flow.is _ c.in-Apply.is in
    let applied = applied_app c.args.setting.now.flat.now c.requires.set.flat c.args.flow.0 c.in-Apply.app c.in-Apply.out defined c.apps.result.now c.apps.ensures.apps c.index-apps-app.result c.index-apps-app.is in
    (c.requires.set.flat.apps c.in-Apply.app c.index-apps-app.result applied).args

pub fill_outputs-requires-clause-group : goal.fill_outputs-requires-clause-group
fill_outputs-requires-clause-group c =
    let defined = defined_so c.args.setting.now.flat.now c.args.flow.0 c.requires.flow c.flows.result.now c.flows.ensures.flows c.index-flows-flow.result c.index-flows-flow.is _ c.in-Apply.is in
    let applied = applied_app c.args.setting.now.flat.now c.requires.set.flat c.args.flow.0 c.in-Apply.app c.in-Apply.out defined c.apps.result.now c.apps.ensures.apps c.index-apps-app.result c.index-apps-app.is in
    group_outs c.args.setting.now c.requires.set c.args.flow.0 c.dates_before-number.result c.in-Apply.app c.in-Apply.out c.index-apps-app.result c.args.flows.now defined applied c.dates_before-number.ensures.count
