use Rattle.prl_base.proofs.Standard.{◌++◌, Bool, List, err_from_is_err_and}
use Rattle.prl_stages.specs.Vocabulary.{HasPlan, front, graphed, named_bodies, planned}
use Rattle.prl_stages.specs.declared.stages.Stage.{Stage}
use Rattle.prl_calls.specs.Stops.{given_of}
use Rattle.prl_calls.proofs.Stops.{both_hold, passes_rest, stops_first, stops_rest}
use Rattle.prl_calls.proofs.fronts.planned_program.Goals as goal

-- the stages of the graph, and of the bodies where they are named
abbrev with : Bool → List Stage
with named = graphed ++ named_bodies named

pub returns-in_err-front : goal.returns-in_err-front
returns-in_err-front c =
    let g = given_of c.args.request.now in
    let p = err_from_is_err_and c.from_residual.result c.from_residual.ensures.1 in
    rw (p.1, p.2) (stops_first g front (with c.args.named ++ planned) c.in_err-front.field-0.0 c.in_err-front.ensures)

pub returns-in_err-made : goal.returns-in_err-made
returns-in_err-made c =
    let g = given_of c.args.request.now in
    let all = with c.args.named in
    let p = err_from_is_err_and c.from_residual-in_err-made.result c.from_residual-in_err-made.ensures.1 in
    rw (p.1, p.2) (stops_rest g front (all ++ planned) c.in_err-made.field-0.0 c.in_ok-front.ensures.1 (stops_first g all planned c.in_err-made.field-0.0 c.in_err-made.ensures))

pub returns : goal.returns
returns c =
    let g = given_of c.args.request.now in
    let hold = both_hold g front (with c.args.named) c.in_ok-front.ensures.1 c.in_ok-made.ensures.1 in
    passes_rest g (front ++ with c.args.named) hold _ (HasPlan g) (λ plan found. found.1) planned c.make_planned.result c.make_planned.ensures
