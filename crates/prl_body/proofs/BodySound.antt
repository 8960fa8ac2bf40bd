-- A checked body is well typed.
use Rattle.prl_base.proofs.Standard.{◌≡◌, ◌+◌, ℕ, suc, List, [], ◌∷◌, map, slice_get, Option, Some, None, Result, Ok, Err, refl, ◌∙◌, ap, subst, arith, if◌then◌else◌}
use Rattle.prl_base.specs.Vocabulary.{◌>>=◌, type_of}
use Rattle.prl_base.specs.declared.values.Ty.{Ty}
use Rattle.prl_ast.specs.declared.declarations.Import.{Import}
use Rattle.prl_ast.specs.declared.declarations.Port.{Port}
use Rattle.prl_body.specs.Vocabulary.{CheckedBody, Register, BodyFault, RegisterText, HaveTypes, IsWellTyped, RegisterTree, BodyTree, register_tree, body_tree, typed_as}
use Rattle.prl_body.specs.Vocabulary.{statement_named, output_value, output_values, next_value, resolved_registers, checked_body, expression_of, Expression, name}
use Rattle.prl_body.specs.Vocabulary.{StatementTree, TextTree, typed, HasType}
use Rattle.prl_body.specs.declared.codes.Variable.TheVariants as variables
use Rattle.prl_body.specs.declared.faults.BodyFault.TheVariants as faults
use Rattle.prl_base.specs.BodyTypes.{is_same_type}
use Rattle.prl_body.proofs.Inversion.{both_ok, passed_ok}
use Rattle.prl_body.proofs.UsedBodies.{made_of}
use Rattle.prl_body.proofs.TypedSound.{port_types, text_types, same_type, typed_sound}

abbrev pub tree_types : List RegisterTree → List Ty
tree_types rs = map (λ (r : RegisterTree). type_of r.first) rs

abbrev pub tree_nexts : List RegisterTree → List Expression
tree_nexts rs = map (λ (r : RegisterTree). r.next) rs

typed_as_sound : (ins : List Port) (registers : List RegisterText) (ty : Ty) (s : StatementTree) (e : Expression) → typed_as ins registers ty s ≡ Ok e →
    HasType (port_types ins) (text_types registers) e ty
typed_as_sound ins registers ty s e is =
    let after : Expression × Ty → Result Expression BodyFault = λ x. (if is_same_type x.1 ty then Ok x.0 else Err (faults.BodyType s.at.at)) in
    let both = both_ok (typed ins registers s.right) after e is in
    let passed = passed_ok (is_same_type both.first.1 ty) (Ok both.first.0) e (faults.BodyType s.at.at) both.rest in
    let type = same_type both.first.1 ty passed.0 in
    let same : both.first.0 ≡ e = cc (passed.1) in
    let inner = typed_sound ins registers s.right both.first both.is in
    let Inner : Ty → Type 0 = λ t. HasType (port_types ins) (text_types registers) both.first.0 t in
    let Typed : Expression → Type 0 = λ x. HasType (port_types ins) (text_types registers) x ty in
    subst Typed same (subst Inner type inner)

output_value_sound : (ins : List Port) (registers : List RegisterText) (at : ℕ) (ty : Ty) (s : Option StatementTree) (e : Expression) →
    output_value ins registers at ty s ≡ Ok e → HasType (port_types ins) (text_types registers) e ty
output_value_sound ins registers at ty None e is = absurd (cc)
output_value_sound ins registers at ty (Some s) e is = typed_as_sound ins registers ty s e is

output_values_sound : (ins : List Port) (registers : List RegisterText) (at : ℕ) (ss : List StatementTree) (outs : List Port) (es : List Expression) →
    output_values ins registers at ss outs ≡ Ok es → HaveTypes (port_types ins) (text_types registers) es (port_types outs)
output_values_sound ins registers at ss [] es is =
    let Typed : List Expression → Type 0 = λ x. HaveTypes (port_types ins) (text_types registers) x [] in
    let same : [] ≡ es = cc in
    subst Typed same tt
output_values_sound ins registers at ss (p ∷ ps) es is =
    let after : Expression → Result (List Expression) BodyFault = λ x. (output_values ins registers at ss ps >>= λ xs. Ok (x ∷ xs)) in
    let one = both_ok (output_value ins registers at p.ty (statement_named ss p.name)) after es is in
    let last : List Expression → Result (List Expression) BodyFault = λ xs. Ok (one.first ∷ xs) in
    let two = both_ok (output_values ins registers at ss ps) last es one.rest in
    let same : one.first ∷ two.first ≡ es = cc (two.rest) in
    let Typed : List Expression → Type 0 = λ x. HaveTypes (port_types ins) (text_types registers) x (port_types (p ∷ ps)) in
    subst Typed same (output_value_sound ins registers at p.ty (statement_named ss p.name) one.first one.is, output_values_sound ins registers at ss ps two.first two.is)

next_value_sound : (ins : List Port) (registers : List RegisterText) (k : ℕ) (ty : Ty) (s : Option StatementTree) (e : Expression) →
    slice_get (text_types registers) k ≡ Some ty → next_value ins registers k ty s ≡ Ok e → HasType (port_types ins) (text_types registers) e ty
next_value_sound ins registers k ty None e at is =
    let Typed : Expression → Type 0 = λ x. HasType (port_types ins) (text_types registers) x ty in
    let same : name (variables.Register k) ≡ e = cc in
    subst Typed same at
next_value_sound ins registers k ty (Some s) e at is = typed_as_sound ins registers ty s e is

record RegistersTyped (ins : List Port) (all rs : List RegisterText) (ts : List RegisterTree) : Type 0 where
  nexts : HaveTypes (port_types ins) (text_types all) (tree_nexts ts) (text_types rs)
  types : tree_types ts ≡ text_types rs

resolved_sound : (ins : List Port) (all : List RegisterText) (ss : List StatementTree) (k : ℕ) (rs : List RegisterText) (ts : List RegisterTree) →
    ((j : ℕ) → slice_get (text_types all) (k + j) ≡ slice_get (text_types rs) j) →
    resolved_registers ins all ss k rs ≡ Ok ts → RegistersTyped ins all rs ts
resolved_sound ins all ss k [] ts at is =
    let same : [] ≡ ts = cc in
    let Typed : List RegisterTree → Type 0 = λ x. RegistersTyped ins all [] x in
    subst Typed same (record { nexts = tt; types = refl })
resolved_sound ins all ss k (r ∷ rs) ts at is =
    let after : Expression → Result (List RegisterTree) BodyFault = λ x. (resolved_registers ins all ss (k + 1) rs >>= λ xs. Ok ((record { name = r.name; first = r.first; next = x }) ∷ xs)) in
    let one = both_ok (next_value ins all k (type_of r.first) (statement_named ss r.name)) after ts is in
    let tree : RegisterTree = record { name = r.name; first = r.first; next = one.first } in
    let last : List RegisterTree → Result (List RegisterTree) BodyFault = λ xs. Ok (tree ∷ xs) in
    let two = both_ok (resolved_registers ins all ss (k + 1) rs) last ts one.rest in
    let same : tree ∷ two.first ≡ ts = cc (two.rest) in
    let here : slice_get (text_types all) k ≡ Some (type_of r.first) = ap (slice_get (text_types all)) (omega arith) ∙ at 0 in
    let there : (j : ℕ) → slice_get (text_types all) (k + 1 + j) ≡ slice_get (text_types rs) j = λ j. ap (slice_get (text_types all)) (omega arith) ∙ at (suc j) in
    let others = resolved_sound ins all ss (k + 1) rs two.first there two.is in
    let Typed : List RegisterTree → Type 0 = λ x. RegistersTyped ins all (r ∷ rs) x in
    subst Typed same (record { nexts = (next_value_sound ins all k (type_of r.first) (statement_named ss r.name) one.first here one.is, others.nexts); types = ap (λ (l : List Ty). type_of r.first ∷ l) others.types })

record IsTypedTree (t : BodyTree) : Type 0 where
  outputs : HaveTypes (port_types t.ins) (tree_types t.registers) t.values (port_types t.outs)
  registers : HaveTypes (port_types t.ins) (tree_types t.registers) (tree_nexts t.registers) (tree_types t.registers)

checked_sound : (import : Import) (body : TextTree) (t : BodyTree) → checked_body import body ≡ Ok t → IsTypedTree t
checked_sound import body t is =
    let made = made_of import body t is in
    let outputs = output_values_sound import.ins body.registers body.at.at body.statements import.outs made.values made.values_are in
    let resolved = resolved_sound import.ins body.registers body.statements 0 body.registers made.registers (λ j. ap (slice_get (text_types body.registers)) (omega arith)) made.registers_are in
    subst IsTypedTree made.same (record { outputs = rw resolved.types outputs; registers = rw resolved.types resolved.nexts })

types_tree : (rs : List Register) → tree_types (map register_tree rs) ≡ map type_of (map (λ (r : Register). r.first) rs)
types_tree [] = refl
types_tree (r ∷ rs) = ap (λ (l : List Ty). type_of r.first ∷ l) (types_tree rs)

nexts_tree : (rs : List Register) → tree_nexts (map register_tree rs) ≡ map (λ (r : Register). expression_of r.next) rs
nexts_tree [] = refl
nexts_tree (r ∷ rs) = ap (λ (l : List Expression). expression_of r.next ∷ l) (nexts_tree rs)

pub IsWellTyped_checked : (import : Import) (body : TextTree) (parts : CheckedBody) → checked_body import body ≡ Ok (body_tree parts) → IsWellTyped parts
IsWellTyped_checked import body parts is =
    let typed_tree = checked_sound import body (body_tree parts) is in
    record {
      outputs = rw (types_tree parts.registers) at typed_tree.outputs;
      registers = rw (types_tree parts.registers, nexts_tree parts.registers) at typed_tree.registers;
    }
