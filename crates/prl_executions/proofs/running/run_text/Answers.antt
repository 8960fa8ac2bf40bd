use Rattle.prl_base.proofs.Standard.{inl, err_from_is_err_and}
use Rattle.prl_executions.proofs.running.run_text.Goals as goal

pub returns-in_err-ready : goal.returns-in_err-ready
returns-in_err-ready c =
    let p = err_from_is_err_and c.from_residual.result c.from_residual.ensures.1 in
    rw (p.1, p.2) (c.in_err-ready.ensures)

pub returns-in_err-closed : goal.returns-in_err-closed
returns-in_err-closed c =
    let p = err_from_is_err_and c.from_residual-in_err-closed.result c.from_residual-in_err-closed.ensures.1 in
    rw (p.1, p.2) (inl tt)

pub returns-in_err-text : goal.returns-in_err-text
returns-in_err-text c =
    let p = err_from_is_err_and c.from_residual-in_err-text.result c.from_residual-in_err-text.ensures.1 in
    rw (p.1, p.2) (inl tt)

pub returns : goal.returns
returns c = (c.in_ok-text.ensures.text, c.in_ok-ready.ensures.1)
