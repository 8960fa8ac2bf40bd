use Rattle.prl_base.proofs.Standard.{inl, inr, err_from_is_err_and}
use Rattle.prl_calls.proofs.fronts.read_front.Goals as goal

pub returns-in_err-program : goal.returns-in_err-program
returns-in_err-program c =
    let p = err_from_is_err_and c.from_residual.result c.from_residual.ensures.1 in
    rw (p.1, p.2) (inl c.in_err-program.ensures)

pub returns-in_err-typed : goal.returns-in_err-typed
returns-in_err-typed c =
    let p = err_from_is_err_and c.from_residual-in_err-typed.result c.from_residual-in_err-typed.ensures.1 in
    rw (p.1, p.2) (inr (c.in_ok-program.ensures.1, inl c.in_err-typed.ensures))

pub returns-in_err-made : goal.returns-in_err-made
returns-in_err-made c =
    let p = err_from_is_err_and c.from_residual-in_err-made.result c.from_residual-in_err-made.ensures.1 in
    rw (p.1, p.2) (inr (c.in_ok-program.ensures.1, inr (c.in_ok-typed.ensures.1, c.in_err-made.ensures)))

pub returns : goal.returns
returns c =
    let typed = c.in_ok-typed.ensures in
    let made = c.in_ok-made.ensures in
    ((rw c.main-main.ensures.main typed.0.1, made.0.2), (c.in_ok-program.ensures.1, (typed.1, made.1)))
