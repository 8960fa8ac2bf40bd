use Rattle.std.proofs.Common.{◌+◌, ◌<◌, sym, subst, arith}
use Rattle.std.specs.Prelude.{SomeIff, None, ◌^◌}
use Rattle.std.specs.Str.Parse.{digits_value}
use Rattle.std.proofs.lemmas.Int.Digits.{digits_value_more}
use Rattle.std.proofs.lemmas.Str.Parse.{digits_value-take-le}
use Rattle.prl_base.proofs.decimals.value_of.Goals as goal

-- one digit more at the end is too much already
pub returns-in_err-number : goal.returns-in_err-number
returns-in_err-number c =
    let more = digits_value_more 10 c.args.digits.now c.loop-digit.digit-index (omega arith) in
    let least = digits_value-take-le 10 c.args.digits.now (c.loop-digit.digit-index + 1) (omega arith) in
    let equal = c.loop-digit.invariant.0 in
    let none : SomeIff None (digits_value 10 c.args.digits.now < 2 ^ 64) (digits_value 10 c.args.digits.now) = λ small. c.in_err-number.ensures (omega (arith, more, least, equal)) in
    subst (λ r. SomeIff r (digits_value 10 c.args.digits.now < 2 ^ 64) (digits_value 10 c.args.digits.now)) (sym c.from_residual.ensures) none

pub loop-digit-preserved : goal.loop-digit-preserved
loop-digit-preserved c =
    let more = digits_value_more 10 c.args.digits.now c.loop-digit.digit-index (omega arith) in
    let equal = c.loop-digit.invariant.0 in
    (omega (arith, more, equal, c.in_ok-number.ensures.1), omega (arith, c.in_ok-number.ensures.0, c.in_ok-number.ensures.1))
