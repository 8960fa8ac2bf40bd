use Rattle.prl_base.proofs.Standard.{◌++◌, [], ◌∷◌, inl, err_from_is_err_and}
use Rattle.prl_stages.specs.Vocabulary.{front, graphed, planned}
use Rattle.prl_stages.specs.declared.stages.Stage.TheVariants as stages
use Rattle.prl_calls.specs.Stops.{given_of}
use Rattle.prl_calls.proofs.Stops.{both_hold, stops_first, stops_rest}
use Rattle.prl_executions.proofs.texts.plan_and_horizon.Goals as goal

pub returns-in_err-plan : goal.returns-in_err-plan
returns-in_err-plan c =
    let g = given_of c.args.request.now in
    let p = err_from_is_err_and c.from_residual.result c.from_residual.ensures.1 in
    rw (p.1, p.2) (stops_first g (front ++ graphed ++ planned) (stages.Horizon ∷ []) c.in_err-plan.field-0.0 c.in_err-plan.ensures)

pub returns-in_err-horizon : goal.returns-in_err-horizon
returns-in_err-horizon c =
    let g = given_of c.args.request.now in
    let p = err_from_is_err_and c.from_residual-in_err-horizon.result c.from_residual-in_err-horizon.ensures.1 in
    rw (p.1, p.2) (stops_rest g (front ++ graphed ++ planned) (stages.Horizon ∷ []) c.in_err-horizon.field-0.0 c.in_ok-plan.ensures.1 (inl c.in_err-horizon.ensures))

pub returns : goal.returns
returns c =
    let g = given_of c.args.request.now in
    (c.in_ok-horizon.ensures.0, both_hold g (front ++ graphed ++ planned) (stages.Horizon ∷ []) c.in_ok-plan.ensures.1 (c.in_ok-horizon.ensures.1, tt))
