use Rattle.prl_base.proofs.Standard.{◌++◌, List, [], ◌∷◌, inl, err_from_is_err_and}
use Rattle.prl_stages.specs.Vocabulary.{graphed, planned}
use Rattle.prl_stages.specs.declared.stages.Stage.{Stage}
use Rattle.prl_stages.specs.declared.stages.Stage.TheVariants as stages
use Rattle.prl_calls.specs.Stops.{given_of}
use Rattle.prl_calls.proofs.Stops.{both_hold, stops_first, stops_rest}
use Rattle.prl_executions.proofs.ready.ready_with.Goals as goal

-- the stages before the rows
abbrev first : List Stage
first = graphed ++ (stages.Bodies ∷ []) ++ planned ++ (stages.Horizon ∷ [])

pub program_is_ready-requires-clause-expanded : goal.program_is_ready-requires-clause-expanded
program_is_ready-requires-clause-expanded c = rw c.in_ok-run.ensures.0.0 c.requires.expanded

pub program_is_ready-requires-clause-order : goal.program_is_ready-requires-clause-order
program_is_ready-requires-clause-order c = rw (c.in_ok-run.ensures.0.0, c.in_ok-run.ensures.0.1) c.requires.order

pub program_is_ready-requires-clause-bodies : goal.program_is_ready-requires-clause-bodies
program_is_ready-requires-clause-bodies c = rw c.in_ok-run.ensures.0.3 c.in_ok-bodies.ensures.0.0

pub program_is_ready-requires-clause-have : goal.program_is_ready-requires-clause-have
program_is_ready-requires-clause-have c = rw c.in_ok-run.ensures.0.3 c.in_ok-bodies.ensures.0.1

pub program_is_ready-requires-clause-graph : goal.program_is_ready-requires-clause-graph
program_is_ready-requires-clause-graph c = rw (c.in_ok-run.ensures.0.0, c.in_ok-run.ensures.0.2) c.in_ok-bodies.ensures.0.2

pub returns-in_err-bodies : goal.returns-in_err-bodies
returns-in_err-bodies c =
    let g = given_of c.args.request.now in
    let p = err_from_is_err_and c.from_residual.result c.from_residual.ensures.1 in
    rw (p.1, p.2) (stops_first g first (stages.Rows ∷ []) c.in_err-bodies.field-0.0 c.in_err-bodies.ensures)

pub returns-in_err-run : goal.returns-in_err-run
returns-in_err-run c =
    let g = given_of c.args.request.now in
    let p = err_from_is_err_and c.from_residual-in_err-run.result c.from_residual-in_err-run.ensures.1 in
    rw (p.1, p.2) (stops_rest g first (stages.Rows ∷ []) c.in_err-run.field-0.0 c.in_ok-bodies.ensures.1 (inl c.in_err-run.ensures))

pub returns : goal.returns
returns c =
    let hold = both_hold (given_of c.args.request.now) first (stages.Rows ∷ []) c.in_ok-bodies.ensures.1 (c.in_ok-run.ensures.1, tt) in
    (c.program_is_ready.ensures, hold)
