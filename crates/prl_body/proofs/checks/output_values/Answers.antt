use Rattle.prl_base.proofs.Standard.{◌≡◌, ◌+◌, [], ◌∷◌, map, drop, refl, Ok, Err, drop_all, err_from_is_err_and}
use Rattle.prl_base.specs.Reading.{◌>>=◌}
use Rattle.prl_body.specs.Checks.{output_value, output_values, statement_named}
use Rattle.prl_body.specs.Codes.{expression_of}
use Rattle.prl_body.specs.Texts.{statement_tree}
use Rattle.prl_body.proofs.Lists.{next_of, added_step, added_fails, added_ends}
use Rattle.prl_body.proofs.checks.output_values.Goals as goal

pub loop-port-preserved : goal.loop-port-preserved
loop-port-preserved c =
    let scope = c.args.scope.now in
    let statements = map statement_tree c.args.statements.now in
    let values = output_values scope.ins scope.registers c.args.at statements in
    let outs = c.args.outs.now in
    let port = c.port-item.result in
    let next = next_of outs c.loop-port.port-index port c.loop-port-test.true c.port-item.is in
    let later = values (drop (c.loop-port.port-index + 1) outs) in
    let is : output_value scope.ins scope.registers c.args.at port.ty (statement_named statements port.name) ≡ Ok (expression_of c.in_ok-value.value) = c.in_ok-value.ensures in
    let one : values (drop c.loop-port.port-index outs) ≡ (later >>= λ ys. Ok (expression_of c.in_ok-value.value ∷ ys)) = rw (next, is) refl in
    rw c.in_ok-push.ensures.items (added_step expression_of c.loop-port.values.items c.in_ok-value.value (values (drop c.loop-port.port-index outs)) later (values outs) one c.loop-port.invariant)

pub returns-in_err-value : goal.returns-in_err-value
returns-in_err-value c =
    let p = err_from_is_err_and c.from_residual.result c.from_residual.ensures.1 in
    let values = output_values c.args.scope.now.ins c.args.scope.now.registers c.args.at (map statement_tree c.args.statements.now) in
    let left = values (drop c.loop-port.port-index c.args.outs.now) in
    rw (p.1, p.2) (λ other.
    let next = next_of c.args.outs.now c.loop-port.port-index c.port-item.result c.loop-port-test.true c.port-item.is in
    let one : left ≡ Err c.in_err-value.field-0.0 = rw (next, c.in_err-value.ensures other) refl in
    added_fails (map expression_of c.loop-port.values.items) left (values c.args.outs.now) c.in_err-value.field-0.0 one c.loop-port.invariant)

pub returns : goal.returns
returns c =
    let values = output_values c.args.scope.now.ins c.args.scope.now.registers c.args.at (map statement_tree c.args.statements.now) in
    let left = values (drop c.loop-port.port-index c.args.outs.now) in
    let over : left ≡ Ok [] = rw (drop_all c.loop-port.port-index c.args.outs.now c.loop-port-test.false) refl in
    added_ends (map expression_of c.loop-port.values.items) left (values c.args.outs.now) over c.loop-port.invariant
