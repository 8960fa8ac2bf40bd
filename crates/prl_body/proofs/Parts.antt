-- A checked body by its code.
use Rattle.std.proofs.Common.{◌≡◌, List, Result, Ok, Err, refl}
use Rattle.prl_base.specs.Reading.{◌>>=◌}
use Rattle.prl_ast.specs.declared.declarations.Import.{Import}
use Rattle.prl_body.specs.Vocabulary.{BodyFault, RegisterTree, BodyTree, checked_body, checked_code, output_values, resolved_registers, typed_statements, without_fault, Expression, name_fault}
use Rattle.prl_body.specs.Vocabulary.{TextTree}

abbrev both : List Expression → List RegisterTree → Result (List Expression × List RegisterTree) BodyFault
both values registers = Ok (values, registers)

in_parts : (names types : Result (Unit {0}) BodyFault) (values : Result (List Expression) BodyFault) (registers : Result (List RegisterTree) BodyFault) (make : List Expression → List RegisterTree → BodyTree) →
    (names >>= λ _. (types >>= λ _. (values >>= λ v. (registers >>= λ r. Ok (make v r)))))
    ≡ (((names >>= λ _. types) >>= λ _. (values >>= λ v. (registers >>= λ r. both v r))) >>= λ x. Ok (make x.0 x.1))
in_parts (Err e) types values registers make = refl
in_parts (Ok x) (Err e) values registers make = refl
in_parts (Ok x) (Ok y) (Err e) registers make = refl
in_parts (Ok x) (Ok y) (Ok v) (Err e) make = refl
in_parts (Ok x) (Ok y) (Ok v) (Ok r) make = refl

pub body_of_code : (import : Import) (body : TextTree) → checked_body import body
    ≡ (checked_code import.ins import.outs body.registers body.at.at body.statements >>= λ x.
    Ok (record { name = body.name; ins = import.ins; outs = import.outs; registers = x.1; values = x.0 }))
body_of_code import body =
    in_parts (without_fault (name_fault import.ins import.outs body)) (typed_statements import.ins import.outs body.registers body.statements)
    (output_values import.ins body.registers body.at.at body.statements import.outs) (resolved_registers import.ins body.registers body.statements 0 body.registers)
    (λ v r. record { name = body.name; ins = import.ins; outs = import.outs; registers = r; values = v })
