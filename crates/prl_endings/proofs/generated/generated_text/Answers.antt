use Rattle.prl_base.proofs.Standard.{err_from_is_err_and}
use Rattle.prl_endings.proofs.Answered.{generated_answered, generated_stop}
use Rattle.prl_endings.proofs.generated.generated_text.Goals as goal

pub returns-in_err-ready-clause-stop : goal.returns-in_err-ready-clause-stop
returns-in_err-ready-clause-stop c =
    let p = err_from_is_err_and c.from_residual-in_err-ready.result c.from_residual-in_err-ready.ensures.1 in
    rw (p.1, p.2)
    (generated_stop c.args.command.now c.requires.mode c.in_ok-request.request c.in_ok-request.ensures.given c.in_err-ready.field-0.0
    c.in_err-ready.ensures)

pub returns-clause-text : goal.returns-clause-text
returns-clause-text c = λ told.
    generated_answered told c.args.command.now c.requires.mode c.in_ok-request.request c.in_ok-request.ensures.given c.in_ok-summary_of.field-0.0.items
    c.in_ok-summary_of.field-0.1 c.in_ok-summary_of.ensures c.in_ok-ready.ensures.1
