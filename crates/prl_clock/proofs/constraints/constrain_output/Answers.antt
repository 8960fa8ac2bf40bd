use Rattle.prl_base.proofs.Standard.{◌≡◌, ◌<◌, ◌≤◌, ◌∷◌, [], List, length, map, get_or, Some, slice_get, subst, ap, ◌∙◌, arith, slice_get-get_or, slice_get_within}
use Rattle.prl_base.specs.declared.numbers.FlowNo.{FlowNo}
use Rattle.prl_flow.specs.Programs.{IsApplication}
use Rattle.prl_flow.specs.declared.programs.Arg.{Arg}
use Rattle.prl_clock.specs.Vocabulary.{Timing, argument_constraint, output_constraints, related, same_clock}
use Rattle.prl_clock.proofs.Taking.{found_at, first_constraints, later_constraints, reached_as, stopped_as}
use Rattle.prl_clock.proofs.constraints.constrain_output.Goals as goal
use Rattle.prl_clock.proofs.constraints.constrain_output.Goals.{After-index-apps-app}

found : (c : After-index-apps-app) → slice_get c.args.flat.now.apps c.args.app ≡ Some c.index-apps-app.result
found c = found_at c.args.flat.now.apps c.apps.result.now c.args.app c.index-apps-app.result c.apps.ensures.apps c.requires.app c.index-apps-app.is

its : (c : After-index-apps-app) → IsApplication c.args.flat.now c.args.app c.index-apps-app.result
its c = c.apps.ensures.well_formed.apps c.args.app c.index-apps-app.result (found c)

pub relate_arguments-requires-clause-args : goal.relate_arguments-requires-clause-args
relate_arguments-requires-clause-args c =
    λ j arg h.
    let d = (goal.at.relate_arguments-requires-clause-args c).After-index-apps-app in
    let P : List Arg → Type 0 = λ xs. slice_get xs j ≡ Some arg in (its d).args j arg (subst P c.as_slice.ensures h)

pub bounds-as_slice-0 : goal.bounds-as_slice-0
bounds-as_slice-0 c =
    let d = (goal.at.bounds-as_slice-0 c).After-index-apps-app in
    let some = (its d).has_output in let e = ap length c.as_slice-else-out-eq0.ensures in omega (arith, some, e)

pub relate_at-requires-clause-y : goal.relate_at-requires-clause-y
relate_at-requires-clause-y c =
    let d = (goal.at.relate_at-requires-clause-y c).After-index-apps-app in
    let outs : List FlowNo = c.as_slice-else-out-eq0.result.now in
    let some : 0 < length outs = let h = (its d).has_output in let e = ap length c.as_slice-else-out-eq0.ensures in omega (arith, h, e) in
    let P : List FlowNo → Type 0 = λ xs. slice_get xs 0 ≡ Some (get_or outs 0 (record { 0 = 0 })) in
    let o = (its d).outs 0 (get_or outs 0 (record { 0 = 0 })) (subst P c.as_slice-else-out-eq0.ensures (slice_get-get_or outs 0 (record { 0 = 0 }) some)) in
    slice_get_within c.args.flat.now.flows _ o.0 o.1

firsts : (c : After-index-apps-app) (args : List Arg) → args ≡ c.index-apps-app.result.args → c.args.out ≡ 0
    → map (argument_constraint c.args.x) args ≡ output_constraints c.args.x c.args.at c.args.out (slice_get c.args.flat.now.apps c.args.app)
firsts c args e h =
    ap (map (argument_constraint c.args.x)) e ∙ first_constraints c.args.x c.args.at c.args.out (slice_get c.args.flat.now.apps c.args.app) c.index-apps-app.result (found c) h

pub returns-then-out-eq0-clause-reached : goal.returns-then-out-eq0-clause-reached
returns-then-out-eq0-clause-reached c =
    λ cs r.
    let d = (goal.at.returns-then-out-eq0-clause-reached c).After-index-apps-app in
    reached_as c.args.flat.now cs _ _ c.relate_arguments.new.standings c.relate_arguments.result (firsts d c.as_slice.result.now c.as_slice.ensures c.if-out-eq0.true)
    (c.relate_arguments.ensures.reached cs r)

pub returns-then-out-eq0-clause-stopped : goal.returns-then-out-eq0-clause-stopped
returns-then-out-eq0-clause-stopped c =
    λ cs r.
    let d = (goal.at.returns-then-out-eq0-clause-stopped c).After-index-apps-app in
    stopped_as cs _ _ c.relate_arguments.result (firsts d c.as_slice.result.now c.as_slice.ensures c.if-out-eq0.true) (c.relate_arguments.ensures.stopped cs r)

laters : (c : After-index-apps-app) (link : Timing) (outs : List FlowNo) → link ≡ same_clock → outs ≡ c.index-apps-app.result.outs → 1 ≤ c.args.out
    → (record { constraint = related c.args.x ((get_or outs 0 (record { 0 = 0 })).0) link; at = c.args.at }) ∷ []
    ≡ output_constraints c.args.x c.args.at c.args.out (slice_get c.args.flat.now.apps c.args.app)
laters c link outs l e h =
    ap (λ (t : Timing). (record { constraint = related c.args.x ((get_or outs 0 (record { 0 = 0 })).0) t; at = c.args.at }) ∷ []) l
    ∙ later_constraints c.args.x c.args.at c.args.out (slice_get c.args.flat.now.apps c.args.app) c.index-apps-app.result ((get_or outs 0 (record { 0 = 0 })).0) (found c) h
    (ap (λ (xs : List FlowNo). (get_or xs 0 (record { 0 = 0 })).0) e)

pub returns-else-out-eq0-clause-reached : goal.returns-else-out-eq0-clause-reached
returns-else-out-eq0-clause-reached c =
    λ cs r.
    let d = (goal.at.returns-else-out-eq0-clause-reached c).After-index-apps-app in
    reached_as c.args.flat.now cs _ _ c.relate_at.new.standings c.relate_at.result
    (laters d c.same_clock.result c.as_slice-else-out-eq0.result.now c.same_clock.ensures.timing c.as_slice-else-out-eq0.ensures (omega (arith, c.if-out-eq0.false)))
    (c.relate_at.ensures.reached cs r)

pub returns-else-out-eq0-clause-stopped : goal.returns-else-out-eq0-clause-stopped
returns-else-out-eq0-clause-stopped c =
    λ cs r.
    let d = (goal.at.returns-else-out-eq0-clause-stopped c).After-index-apps-app in
    stopped_as cs _ _ c.relate_at.result
    (laters d c.same_clock.result c.as_slice-else-out-eq0.result.now c.same_clock.ensures.timing c.as_slice-else-out-eq0.ensures (omega (arith, c.if-out-eq0.false)))
    (c.relate_at.ensures.stopped cs r)
