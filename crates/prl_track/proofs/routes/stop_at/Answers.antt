use Rattle.prl_base.proofs.Standard.{◌≡◌, ◌+◌, List, length, get_or, Some, arith, refl, sym, ◌∙◌, ap, slice_get, slice_get-get_or}
use Rattle.prl_track.specs.Vocabulary.{Access, Cursor, route_of}
use Rattle.prl_track.specs.declared.routes.Access.TheVariants as accesses
use Rattle.prl_track.proofs.RouteLaws.{route_is_of_task, action_here, cursor_passes, end_here}
use Rattle.prl_track.proofs.routes.stop_at.Goals as goal

pub on_access-requires-clause-access : goal.on_access-requires-clause-access
on_access-requires-clause-access c =
    let none : Access = accesses.Reads (record { 0 = 0 }) in
    let access : Access = get_or c.args.route.now c.loop-at.at.index none in
    let here : slice_get (route_of c.args.plan.now.graph c.args.i.0) c.loop-at.at.index ≡ Some access =
    ap (λ (r : List Access). slice_get r c.loop-at.at.index) (sym c.requires.route) ∙ slice_get-get_or c.args.route.now c.loop-at.at.index none c.loop-at-test.true in
    route_is_of_task c.args.plan.now.graph c.args.i.0 c.loop-at.at.index access here

pub returns-in-Ok-clause-action : goal.returns-in-Ok-clause-action
returns-in-Ok-clause-action c =
    let none : Access = accesses.Reads (record { 0 = 0 }) in
    let access : Access = get_or c.args.route.now c.loop-at.at.index none in
    let here : slice_get (route_of c.args.plan.now.graph c.args.i.0) c.loop-at.at.index ≡ Some access =
    ap (λ (r : List Access). slice_get r c.loop-at.at.index) (sym c.requires.route) ∙ slice_get-get_or c.args.route.now c.loop-at.at.index none c.loop-at-test.true in
    sym (action_here c.args.plan.now c.args.i.0 c.args.n c.args.place c.loop-at.at c.loop-at.invariant access c.in-Ok.action here c.in-Ok.ensures)

pub loop-at-preserved : goal.loop-at-preserved
loop-at-preserved c =
    let none : Access = accesses.Reads (record { 0 = 0 }) in
    let access : Access = get_or c.args.route.now c.loop-at.at.index none in
    let here : slice_get (route_of c.args.plan.now.graph c.args.i.0) c.loop-at.at.index ≡ Some access =
    ap (λ (r : List Access). slice_get r c.loop-at.at.index) (sym c.requires.route) ∙ slice_get-get_or c.args.route.now c.loop-at.at.index none c.loop-at-test.true in
    let next : Cursor = record { index = c.loop-at.at.index + 1; rest = c.in-Err.rest } in
    let long : length c.args.route.now ≡ length (route_of c.args.plan.now.graph c.args.i.0) = ap (λ (r : List Access). length r) c.requires.route in
    let below = c.loop-at-test.true in
    cursor_passes c.args.plan.now c.args.i.0 c.args.n c.args.place c.loop-at.at c.loop-at.invariant access c.in-Err.rest next here (omega (arith, long, below)) c.in-Err.ensures refl refl

pub returns-clause-action : goal.returns-clause-action
returns-clause-action c =
    let long : length c.args.route.now ≡ length (route_of c.args.plan.now.graph c.args.i.0) = ap (λ (r : List Access). length r) c.requires.route in
    sym (end_here c.args.plan.now c.args.i.0 c.args.n c.args.place c.loop-at.at c.loop-at.invariant (omega (arith, long, c.loop-at-test.false)))
