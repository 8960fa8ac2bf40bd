use Rattle.prl_base.proofs.Standard.{◌≡◌, Some, slice_get}
use Rattle.prl_flow.specs.declared.programs.Flow.{Flow}
use Rattle.prl_clock.specs.Constraints.{rate_constraints, definition_constraints}
use Rattle.prl_clock.proofs.Fine.{stopped_within as stopped_front}
use Rattle.prl_clock.proofs.Taking.{found_at, if_err_same, flow_found, reached_as, reached_twice, stopped_as, stopped_twice}
use Rattle.prl_clock.proofs.constraints.constrain_flow.Goals as goal
use Rattle.prl_clock.proofs.constraints.constrain_flow.Goals.{After-index-flows-x}

found : (c : After-index-flows-x) → slice_get c.args.flat.now.flows c.args.x ≡ Some c.index-flows-x.result
found c = found_at c.args.flat.now.flows c.flows.result.now c.args.x c.index-flows-x.result c.flows.ensures.flows c.requires.x c.index-flows-x.is

pub constrain_definition-requires-clause-reached : goal.constrain_definition-requires-clause-reached
constrain_definition-requires-clause-reached c = (_, c.in_ok-constrain_rate.ensures.reached c.requires.reached.0 c.requires.reached.1)

pub constrain_definition-requires-clause-defined : goal.constrain_definition-requires-clause-defined
constrain_definition-requires-clause-defined c =
    let d = (goal.at.constrain_definition-requires-clause-defined c).After-index-flows-x in
    (c.index-flows-x.result.ty, c.flows.ensures.well_formed.flows c.args.x c.index-flows-x.result (found d))

pub returns-in_err-constrain_rate-clause-stopped : goal.returns-in_err-constrain_rate-clause-stopped
returns-in_err-constrain_rate-clause-stopped c =
    λ cs r.
    let d = (goal.at.returns-in_err-constrain_rate-clause-stopped c).After-index-flows-x in
    let F : Flow = c.index-flows-x.result in
    stopped_as cs _ _ c.from_residual.result (flow_found c.args.flat.now c.args.x (slice_get c.args.flat.now.flows c.args.x) F (found d))
    (if_err_same c.from_residual.result _ c.in_err-constrain_rate.field-0.0 c.from_residual.ensures.1
    (stopped_front cs (rate_constraints c.args.x F.at.at F.rate) (definition_constraints c.args.flat.now c.args.x F.at.at F.def) _ (c.in_err-constrain_rate.ensures.stopped cs r)))

pub returns-clause-reached : goal.returns-clause-reached
returns-clause-reached c =
    λ cs r.
    let d = (goal.at.returns-clause-reached c).After-index-flows-x in
    let F : Flow = c.index-flows-x.result in
    reached_as c.args.flat.now cs _ _ c.constrain_definition.new.standings c.constrain_definition.result
    (flow_found c.args.flat.now c.args.x (slice_get c.args.flat.now.flows c.args.x) F (found d))
    (reached_twice c.args.flat.now cs (rate_constraints c.args.x F.at.at F.rate) (definition_constraints c.args.flat.now c.args.x F.at.at F.def) c.constrain_definition.new.standings
    c.constrain_definition.result (c.constrain_definition.ensures.reached _ (c.in_ok-constrain_rate.ensures.reached cs r)))

pub returns-clause-stopped : goal.returns-clause-stopped
returns-clause-stopped c =
    λ cs r.
    let d = (goal.at.returns-clause-stopped c).After-index-flows-x in
    let F : Flow = c.index-flows-x.result in
    stopped_as cs _ _ c.constrain_definition.result (flow_found c.args.flat.now c.args.x (slice_get c.args.flat.now.flows c.args.x) F (found d))
    (stopped_twice cs (rate_constraints c.args.x F.at.at F.rate) (definition_constraints c.args.flat.now c.args.x F.at.at F.def) c.constrain_definition.result
    (c.constrain_definition.ensures.stopped _ (c.in_ok-constrain_rate.ensures.reached cs r)))
