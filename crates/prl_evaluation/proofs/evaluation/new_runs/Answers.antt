use Rattle.prl_base.proofs.Standard.{◌≡◌, ◌∙◌, ap, arith, length, refl, slice_get, Some, length_push, slice_get_read}
use Rattle.prl_evaluation.proofs.Begun.{new_pushed}
use Rattle.prl_evaluation.proofs.evaluation.new_runs.Goals as goal

pub loop-app-preserved : goal.loop-app-preserved
loop-app-preserved c =
    let found : slice_get c.args.apps.now c.loop-app.app-index ≡ Some c.app-item.result =
    slice_get_read c.args.apps.now (length c.args.apps.now) c.loop-app.app-index c.app-item.result refl c.loop-app-test.true c.app-item.is in
    let here : slice_get c.args.apps.now (length c.loop-app.runs.items) ≡ Some c.app-item.result = ap (slice_get c.args.apps.now) c.loop-app.invariant.0 ∙ found in
    rw c.in_ok-push.ensures.items (
      omega (arith, length_push c.loop-app.runs.items c.in_ok-new_run.field-0, c.loop-app.invariant.0),
      new_pushed c.args.bodies.now c.args.apps.now c.loop-app.runs.items c.app-item.result c.in_ok-new_run.field-0 here c.in_ok-new_run.ensures c.loop-app.invariant.1,
    )
