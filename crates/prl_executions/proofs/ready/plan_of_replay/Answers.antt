use Rattle.prl_base.proofs.Standard.{◌++◌, List, [], ◌∷◌, inl, inr, err_from_is_err_and}
use Rattle.prl_stages.specs.Vocabulary.{graphed, planned}
use Rattle.prl_stages.specs.declared.stages.Stage.{Stage}
use Rattle.prl_stages.specs.declared.stages.Stage.TheVariants as stages
use Rattle.prl_calls.specs.Stops.{given_of}
use Rattle.prl_calls.proofs.Stops.{stops_first, stops_rest}
use Rattle.prl_executions.proofs.ready.plan_of_replay.Goals as goal

-- the last stage, and those from the plan and from the bodies on
abbrev last : List Stage
last = stages.Horizon ∷ []

abbrev rest : List Stage
rest = (stages.Bodies ∷ []) ++ planned ++ last

pub returns-in_err-graphed : goal.returns-in_err-graphed
returns-in_err-graphed c =
    let g = given_of c.args.request.now in
    let p = err_from_is_err_and c.from_residual.result c.from_residual.ensures.1 in
    rw (p.1, p.2) (stops_first g graphed rest c.in_err-graphed.field-0.0 c.in_err-graphed.ensures)

pub returns-in_err-bodies : goal.returns-in_err-bodies
returns-in_err-bodies c =
    let g = given_of c.args.request.now in
    let p = err_from_is_err_and c.from_residual-in_err-bodies.result c.from_residual-in_err-bodies.ensures.1 in
    rw (p.1, p.2) (stops_rest g graphed rest c.in_err-bodies.field-0.0 c.in_ok-graphed.ensures.1 (inl c.in_err-bodies.ensures))

pub returns-in_err-plan : goal.returns-in_err-plan
returns-in_err-plan c =
    let g = given_of c.args.request.now in
    let p = err_from_is_err_and c.from_residual-in_err-plan.result c.from_residual-in_err-plan.ensures.1 in
    rw (p.1, p.2) (stops_rest g graphed rest c.in_err-plan.field-0.0 c.in_ok-graphed.ensures.1
    (inr (c.in_ok-bodies.ensures.1, stops_first g planned last c.in_err-plan.field-0.0 c.in_err-plan.ensures)))

pub returns-in_err-horizon : goal.returns-in_err-horizon
returns-in_err-horizon c =
    let g = given_of c.args.request.now in
    let p = err_from_is_err_and c.from_residual-in_err-horizon.result c.from_residual-in_err-horizon.ensures.1 in
    rw (p.1, p.2) (stops_rest g graphed rest c.in_err-horizon.field-0.0 c.in_ok-graphed.ensures.1
    (inr (c.in_ok-bodies.ensures.1, stops_rest g planned last c.in_err-horizon.field-0.0 c.in_ok-plan.ensures.1 (inl c.in_err-horizon.ensures))))
