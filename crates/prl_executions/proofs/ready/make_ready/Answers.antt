use Rattle.prl_base.proofs.Standard.{[], ◌∷◌, inl, inr, err_from_is_err_and}
use Rattle.prl_stages.specs.Vocabulary.{front, ran}
use Rattle.prl_stages.specs.declared.stages.Stage.TheVariants as stages
use Rattle.prl_calls.specs.Stops.{given_of, AllHold}
use Rattle.prl_calls.proofs.Stops.{passes_rest, stops_first}
use Rattle.prl_executions.specs.Ready.{IsReady}
use Rattle.prl_executions.proofs.ready.make_ready.Goals as goal

pub returns-in_err-program : goal.returns-in_err-program
returns-in_err-program c =
    let g = given_of c.args.request.now in
    let p = err_from_is_err_and c.from_residual.result c.from_residual.ensures.1 in
    rw (p.1, p.2) (inl c.in_err-program.ensures)

pub returns-in_err-typed : goal.returns-in_err-typed
returns-in_err-typed c =
    let g = given_of c.args.request.now in
    let p = err_from_is_err_and c.from_residual-in_err-typed.result c.from_residual-in_err-typed.ensures.1 in
    rw (p.1, p.2) (inr (c.in_ok-program.ensures.1, inl c.in_err-typed.ensures))

pub returns-in_err-front : goal.returns-in_err-front
returns-in_err-front c =
    let g = given_of c.args.request.now in
    let p = err_from_is_err_and c.from_residual-in_err-front.result c.from_residual-in_err-front.ensures.1 in
    rw (p.1, p.2) (inr (
      c.in_ok-program.ensures.1,
      inr (
        c.in_ok-typed.ensures.1,
        stops_first g (stages.Expansion ∷ stages.Causality ∷ stages.Clocks ∷ []) ran c.in_err-front.field-0.0 c.in_err-front.ensures,
      ),
    ))

pub returns : goal.returns
returns c =
    let g = given_of c.args.request.now in
    let hold : AllHold g front = (c.in_ok-program.ensures.1, (c.in_ok-typed.ensures.1, c.in_ok-front.ensures.1)) in
    passes_rest g front hold (IsReady g) (IsReady g) (λ ready is. is) ran c.ready_with.result c.ready_with.ensures
