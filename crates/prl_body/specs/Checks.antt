-- The bodies of a text, checked against their imports: the trees of those that are one's, or the first fault.
use Rattle.std.specs.Prelude.{ℕ, ◌+◌, Bool, List, [], ◌∷◌, ◌++◌, map, Option, Some, None, Result, Ok, Err, if◌then◌else◌}
use Rattle.std.specs.List.{list_any}
use Rattle.std.specs.Str.{bytes_eq}
use Rattle.prl_base.specs.Reading.{◌>>=◌}
use Rattle.prl_base.specs.Values.{type_of}
use Rattle.prl_base.specs.declared.values.Ty.{Ty}
use Rattle.prl_base.specs.declared.values.Value.{Value}
use Rattle.prl_ast.specs.declared.declarations.Import.{Import}
use Rattle.prl_ast.specs.declared.declarations.Port.{Port}
use Rattle.prl_body.specs.declared.bodies.CheckedBody.{CheckedBody}
use Rattle.prl_body.specs.declared.bodies.Register.{Register}
use Rattle.prl_body.specs.declared.codes.Variable.TheVariants as variables
use Rattle.prl_body.specs.declared.faults.BodyFault.{BodyFault}
use Rattle.prl_body.specs.declared.faults.BodyFault.TheVariants as faults
use Rattle.prl_body.specs.declared.texts.RegisterText.{RegisterText}
use Rattle.prl_body.specs.Codes.{expression_of}
use Rattle.prl_body.specs.Expressions.{Expression, name}
use Rattle.prl_body.specs.NameChecks.{either_fault, name_fault, register_fault, statement_fault}
use Rattle.prl_body.specs.Texts.{StatementTree, TextTree}
use Rattle.prl_body.specs.TypeChecks.{typed}
use Rattle.prl_base.specs.BodyTypes.{is_same_type}

pub record RegisterTree : Type 0 where
  pub name : List ℕ
  -- its value before the first step
  pub first : Value
  -- its value after a step; the register itself where the body has no statement for it
  pub next : Expression

pub record BodyTree : Type 0 where
  pub name : List ℕ
  -- the ports of the import, in order
  pub ins : List Port
  pub outs : List Port
  -- in the order of the text
  pub registers : List RegisterTree
  -- of each output, in the order of the import
  pub values : List Expression

abbrev pub register_tree : Register → RegisterTree
register_tree r = record { name = r.name; first = r.first; next = expression_of r.next }

abbrev pub body_tree : CheckedBody → BodyTree
body_tree p = record { name = p.name; ins = p.ins; outs = p.outs; registers = map register_tree p.registers; values = map expression_of p.values }

-- the right side of a statement whose left name has this type
abbrev pub typed_as : List Port → List RegisterText → Ty → StatementTree → Result Expression BodyFault
typed_as ins registers ty s = typed ins registers s.right >>= λ x. if is_same_type x.1 ty then Ok x.0 else Err (faults.BodyType s.at.at)

abbrev pub port_type : List Port → List ℕ → Option Ty
port_type [] n = None
port_type (p ∷ ps) n = if bytes_eq p.name n then Some p.ty else port_type ps n

abbrev pub register_type : List RegisterText → List ℕ → Option Ty
register_type [] n = None
register_type (r ∷ rs) n = if bytes_eq r.name n then Some (type_of r.first) else register_type rs n

abbrev pub either_type : Option Ty → Option Ty → Option Ty
either_type None other = other
either_type (Some ty) other = Some ty

-- the type of the output or the register of this name
abbrev pub left_type : List Port → List RegisterText → List ℕ → Option Ty
left_type outs registers n = either_type (port_type outs n) (register_type registers n)

abbrev pub typed_statement : List Port → List RegisterText → Option Ty → StatementTree → Result Expression BodyFault
typed_statement ins registers None s = Err (faults.BodyName s.at.at)
typed_statement ins registers (Some ty) s = typed_as ins registers ty s

-- the statements in the order of the text
abbrev pub typed_statements : List Port → List Port → List RegisterText → List StatementTree → Result (Unit {0}) BodyFault
typed_statements ins outs registers [] = Ok tt
typed_statements ins outs registers (s ∷ ss) =
    typed_statement ins registers (left_type outs registers s.left) s >>= λ _. typed_statements ins outs registers ss

-- the first statement with this left name
abbrev pub statement_named : List StatementTree → List ℕ → Option StatementTree
statement_named [] n = None
statement_named (s ∷ ss) n = if bytes_eq s.left n then Some s else statement_named ss n

abbrev pub output_value : List Port → List RegisterText → ℕ → Ty → Option StatementTree → Result Expression BodyFault
output_value ins registers at ty None = Err (faults.BodyArity at)
output_value ins registers at ty (Some s) = typed_as ins registers ty s

-- the value of each output, for a body whose name stands at this byte
abbrev pub output_values : List Port → List RegisterText → ℕ → List StatementTree → List Port → Result (List Expression) BodyFault
output_values ins registers at statements [] = Ok []
output_values ins registers at statements (p ∷ ps) = do
  value ← output_value ins registers at p.ty (statement_named statements p.name)
  values ← output_values ins registers at statements ps
  Ok (value ∷ values)

-- the next value of the register k
abbrev pub next_value : List Port → List RegisterText → ℕ → Ty → Option StatementTree → Result Expression BodyFault
next_value ins registers k ty None = Ok (name (variables.Register k))
next_value ins registers k ty (Some s) = typed_as ins registers ty s

-- the registers, counted from k
abbrev pub resolved_registers : List Port → List RegisterText → List StatementTree → ℕ → List RegisterText → Result (List RegisterTree) BodyFault
resolved_registers ins registers statements k [] = Ok []
resolved_registers ins registers statements k (r ∷ rs) = do
  next ← next_value ins registers k (type_of r.first) (statement_named statements r.name)
  others ← resolved_registers ins registers statements (k + 1) rs
  Ok ((record { name = r.name; first = r.first; next = next }) ∷ others)

abbrev pub without_fault : Option ℕ → Result (Unit {0}) BodyFault
without_fault None = Ok tt
without_fault (Some at) = Err (faults.BodyName at)

-- a body of these ports and registers: first its names, then its types
abbrev pub checked_text : List Port → List Port → List RegisterText → List StatementTree → Result (Unit {0}) BodyFault
checked_text ins outs registers statements = do
  _ ← without_fault (either_fault (register_fault ins outs [] registers) (statement_fault ins outs registers [] statements))
  typed_statements ins outs registers statements

-- what it computes: the values of the outputs, and the registers
abbrev pub checked_code : List Port → List Port → List RegisterText → ℕ → List StatementTree → Result (List Expression × List RegisterTree) BodyFault
checked_code ins outs registers at statements = do
  _ ← checked_text ins outs registers statements
  values ← output_values ins registers at statements outs
  resolved ← resolved_registers ins registers statements 0 registers
  Ok (values, resolved)

-- One body: first its names, then its types, then its outputs.
abbrev pub checked_body : Import → TextTree → Result BodyTree BodyFault
checked_body import body = do
  _ ← without_fault (name_fault import.ins import.outs body)
  _ ← typed_statements import.ins import.outs body.registers body.statements
  values ← output_values import.ins body.registers body.at.at body.statements import.outs
  registers ← resolved_registers import.ins body.registers body.statements 0 body.registers
  Ok (record { name = body.name; ins = import.ins; outs = import.outs; registers = registers; values = values })

abbrev pub import_named : List Import → List ℕ → Option Import
import_named [] n = None
import_named (i ∷ is) n = if bytes_eq i.name n then Some i else import_named is n

abbrev pub has_text : List TextTree → List ℕ → Bool
has_text bodies n = list_any (λ (b : TextTree). bytes_eq b.name n) bodies

abbrev pub checked_one : List TextTree → Option Import → TextTree → (BodyTree → Result (List BodyTree) BodyFault) → Result (List BodyTree) BodyFault → Result (List BodyTree) BodyFault
checked_one earlier None b found other = other
checked_one earlier (Some import) b found other = if has_text earlier b.name then Err (faults.BodyName b.at.at) else (checked_body import b >>= found)

-- The bodies of imports, in the order of the text. A body whose name is no import's is passed over.
abbrev pub checked_bodies : List Import → List TextTree → List TextTree → Result (List BodyTree) BodyFault
checked_bodies imports earlier [] = Ok []
checked_bodies imports earlier (b ∷ bs) = checked_one earlier (import_named imports b.name) b
    (λ x. (checked_bodies imports (earlier ++ b ∷ []) bs >>= λ xs. Ok (x ∷ xs)))
    (checked_bodies imports (earlier ++ b ∷ []) bs)

abbrev pub has_body : List BodyTree → List ℕ → Bool
has_body bodies n = list_any (λ (b : BodyTree). bytes_eq b.name n) bodies

-- each used import has a body
abbrev pub all_there : List BodyTree → List (List ℕ) → Result (Unit {0}) BodyFault
all_there bodies [] = Ok tt
all_there bodies (n ∷ ns) = if has_body bodies n then all_there bodies ns else Err (faults.Missing n)

-- the bodies of a text, for a program with these imports that uses those of the names `used`
abbrev pub checked : List Import → List (List ℕ) → List TextTree → Result (List BodyTree) BodyFault
checked imports used texts = do
  bodies ← checked_bodies imports [] texts
  _ ← all_there bodies used
  Ok bodies
