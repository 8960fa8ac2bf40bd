use Rattle.prl_base.proofs.Standard.{◌≡◌, ◌<◌, ◌+◌, ℕ, List, [], ◌∷◌, length, get_or, map, drop, refl, Ok, Err, drop_all, err_from_is_err_and}
use Rattle.prl_base.specs.Vocabulary.{◌>>=◌, type_of}
use Rattle.prl_body.specs.Vocabulary.{Register, RegisterText, register_tree, next_value, resolved_registers, statement_named, expression_of, statement_tree}
use Rattle.prl_body.proofs.Lists.{next_of, added_step, added_fails, added_ends}
use Rattle.prl_body.proofs.checks.resolved_registers.Goals as goal

-- the registers that are left, by the next one
next_register : (all items : List RegisterText) (k : ℕ) (register : RegisterText) → items ≡ all → k < length items → register ≡ get_or items k register
    → drop k all ≡ register ∷ drop (k + 1) all
next_register all items k register same below is = next_of all k register (rw same at below) (rw same at is)

pub loop-k-preserved : goal.loop-k-preserved
loop-k-preserved c =
    let ins = c.args.scope.now.ins in
    let all = c.args.scope.now.registers in
    let statements = map statement_tree c.args.statements.now in
    let k = c.loop-k.k in
    let register = c.register-item.result in
    let next = next_register all c.registers-register-items.result.now k register c.registers-register-items.ensures c.loop-k-test.true c.register-item.is in
    let made : Register = record { name = c.in_ok-name.name; first = register.first; next = c.in_ok-next.next } in
    let later = resolved_registers ins all statements (k + 1) (drop (k + 1) all) in
    let is : next_value ins all k (type_of register.first) (statement_named statements register.name) ≡ Ok (expression_of c.in_ok-next.next) = c.in_ok-next.ensures in
    let named : c.in_ok-name.name ≡ register.name = c.in_ok-name.ensures in
    let one : resolved_registers ins all statements k (drop k all) ≡ (later >>= λ ys. Ok (register_tree made ∷ ys)) = rw (next, is, named) refl in
    rw c.in_ok-push.ensures.items (added_step register_tree c.loop-k.resolved.items made (resolved_registers ins all statements k (drop k all)) later
    (resolved_registers ins all statements 0 all) one c.loop-k.invariant)

pub returns-in_err-next : goal.returns-in_err-next
returns-in_err-next c =
    let p = err_from_is_err_and c.from_residual.result c.from_residual.ensures.1 in
    let all = c.args.scope.now.registers in
    let resolved = resolved_registers c.args.scope.now.ins all (map statement_tree c.args.statements.now) in
    let left = resolved c.loop-k.k (drop c.loop-k.k all) in
    let next = next_register all c.registers-register-items.result.now c.loop-k.k c.register-item.result c.registers-register-items.ensures c.loop-k-test.true c.register-item.is in
    rw (p.1, p.2) (λ other.
    let one : left ≡ Err c.in_err-next.field-0.0 = rw (next, c.in_err-next.ensures other) refl in
    added_fails (map register_tree c.loop-k.resolved.items) left (resolved 0 all) c.in_err-next.field-0.0 one c.loop-k.invariant)

pub returns : goal.returns
returns c =
    let all = c.args.scope.now.registers in
    let resolved = resolved_registers c.args.scope.now.ins all (map statement_tree c.args.statements.now) in
    let past = rw c.registers-register-items.ensures at c.loop-k-test.false in
    let left = resolved c.loop-k.k (drop c.loop-k.k all) in
    let over : left ≡ Ok [] = rw (drop_all c.loop-k.k all past) refl in
    added_ends (map register_tree c.loop-k.resolved.items) left (resolved 0 all) over c.loop-k.invariant
