use Rattle.prl_base.proofs.Standard.{◌≡◌, ◌∙◌, Some, List, ap, slice_get, length, refl, arith, sym, length_push, slice_get_read}
use Rattle.prl_flow.specs.declared.programs.App.{App}
use Rattle.prl_graph.proofs.LeastDues.{has_clock, none_bound, one_period}
use Rattle.prl_graph.proofs.leasts.periods.Goals as goal

pub application_clock-clock-requires : goal.application_clock-clock-requires
application_clock-clock-requires c =
    let found : slice_get c.args.flat.now.apps c.loop-app.app-index ≡ Some c.app-item.result =
    ap (λ (us : List App). slice_get us c.loop-app.app-index) (sym c.apps-app-items.ensures.apps)
    ∙ slice_get_read c.apps-app-items.result.now (length c.apps-app-items.result.now) c.loop-app.app-index c.app-item.result refl c.loop-app-test.true c.app-item.is in
    has_clock c.args.flat.now c.args.clocks.now.of c.loop-app.app-index c.app-item.result c.apps-app-items.ensures.well_formed c.requires found

pub loop-app-preserved : goal.loop-app-preserved
loop-app-preserved c =
    let found : slice_get c.args.flat.now.apps c.loop-app.app-index ≡ Some c.app-item.result =
    ap (λ (us : List App). slice_get us c.loop-app.app-index) (sym c.apps-app-items.ensures.apps)
    ∙ slice_get_read c.apps-app-items.result.now (length c.apps-app-items.result.now) c.loop-app.app-index c.app-item.result refl c.loop-app-test.true c.app-item.is in
    let period = c.application_clock-clock.result.period in
    rw c.in_ok-push.ensures.items record {
      count = omega (arith, length_push c.loop-app.periods.items period, c.loop-app.invariant.count);
      each = one_period c.args.flat.now c.args.clocks.now.of c.loop-app.periods.items c.loop-app.app-index period c.app-item.result c.loop-app.invariant.count found
          (ap (λ clock. clock.period) c.application_clock-clock.ensures) c.loop-app.invariant.each;
    }

pub returns : goal.returns
returns c =
    let all = ap (λ (us : List App). length us) c.apps-app-items.ensures.apps in
    none_bound c.args.flat.now c.args.clocks.now.of c.loop-app.periods.items c.loop-app.app-index c.loop-app.invariant.count (omega arith) (omega arith) c.loop-app.invariant.each
