use Rattle.std.proofs.Common.{sym, ◌∙◌, arith}
use Rattle.prl_lex.proofs.Numbers.{whole, past}
use Rattle.prl_lex.proofs.lexing.number_of.Goals as goal

pub returns : goal.returns
returns c = whole _ _ c.args.digits.now c.loop-digit.digit-index (omega arith) c.loop-digit.invariant.0 c.loop-digit.invariant.1

pub returns-in_err-number : goal.returns-in_err-number
returns-in_err-number c =
    c.from_residual.ensures
    ∙ sym (past c.loop-digit.number _ c.args.digits.now c.loop-digit.digit-index (omega arith) c.loop-digit.invariant.0
    (sym c.with_digit.ensures ∙ c.in_err-number.was))
