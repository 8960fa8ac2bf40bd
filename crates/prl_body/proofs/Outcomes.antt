-- The check of bodies never has want of memory as its outcome.
use Rattle.prl_base.proofs.Standard.{◌≡◌, ◌≢◌, ◌+◌, ◌++◌, ℕ, Bool, true, false, List, [], ◌∷◌, Option, Some, None, Result, Ok, Err, refl, ap, if◌then◌else◌}
use Rattle.prl_base.specs.Vocabulary.{◌>>=◌, type_of}
use Rattle.prl_base.specs.declared.places.Span.{Span}
use Rattle.prl_base.specs.declared.values.Ty.{Ty}
use Rattle.prl_ast.specs.declared.declarations.Import.{Import}
use Rattle.prl_ast.specs.declared.declarations.Port.{Port}
use Rattle.prl_body.specs.Vocabulary.{Variable, BodyFault, RegisterText, BodyTree, typed_as, left_type, typed_statement, typed_statements, statement_named, output_value, output_values, next_value}
use Rattle.prl_body.specs.Vocabulary.{resolved_registers, without_fault, checked_body, import_named, has_text, checked_one, checked_bodies, has_body, all_there, checked, name_fault, Tree, constant}
use Rattle.prl_body.specs.Vocabulary.{run, series, choice, TreeRights, more, StatementTree, TextTree, typed_name, named, typed, typed_rights}
use Rattle.prl_body.specs.Texts.{name, none}
use Rattle.prl_body.specs.declared.faults.BodyFault.TheVariants as faults

-- a result that is not want of memory
abbrev Told : {A : Type 0} → Result A BodyFault → Type 0
Told r = r ≢ Err faults.Memory

-- another fault
abbrev Other : BodyFault → Type 0
Other fault = fault ≢ faults.Memory

told_ok : {A : Type 0} (a : A) (r : Result A BodyFault) → r ≡ Ok a → Told r
told_ok a r is e = cc

told_err : {A : Type 0} (fault : BodyFault) (r : Result A BodyFault) → r ≡ Err fault → Other fault → Told r
told_err fault r is other e = let same : fault ≡ faults.Memory = cc in other same

told_if : {A : Type 0} (b : Bool) (r s : Result A BodyFault) → Told r → Told s → Told (if b then r else s)
told_if true r s h k = h
told_if false r s h k = k

then_told : {A B : Type 0} (r : Result A BodyFault) (f : A → Result B BodyFault) → Told r → ((a : A) → Told (f a)) → Told (r >>= f)
then_told (Ok a) f h k e = k a e
then_told (Err fault) f h k e = h (let same : fault ≡ faults.Memory = cc in ap (λ (x : BodyFault). Err x) same)

other_name : (at : ℕ) → Other (faults.BodyName at)
other_name at e = cc

other_type : (at : ℕ) → Other (faults.BodyType at)
other_type at e = cc

other_arity : (at : ℕ) → Other (faults.BodyArity at)
other_arity at e = cc

other_missing : (n : List ℕ) → Other (faults.Missing n)
other_missing n e = cc

module _ (ins : List Port) (registers : List RegisterText) where
  name_told : (at : Span) (variable : Option (Variable × Ty)) → Told (typed_name at variable)
  name_told at None = told_err (faults.BodyName at.at) (typed_name at None) refl (other_name at.at)
  name_told at (Some x) = told_ok _ (typed_name at (Some x)) refl

  mutual
    typed_told : (t : Tree) → Told (typed ins registers t)
    typed_told (constant v) = told_ok _ (typed ins registers (constant v)) refl
    typed_told (name n at) = name_told at (named ins registers n)
    typed_told (run prefix ats of) = then_told (typed ins registers of) _ (typed_told of) (λ x. told_if _ _ _ (told_ok _ _ refl) (told_err _ _ refl (other_type _)))
    typed_told (series first rights) = then_told (typed ins registers first) _ (typed_told first)
        (λ x. then_told (typed_rights ins registers x.1 rights) _ (rights_told x.1 rights) (λ y. told_ok _ _ refl))
    typed_told (choice at test chosen other) = then_told (typed ins registers test) _ (typed_told test)
        (λ t. then_told (typed ins registers chosen) _ (typed_told chosen)
        (λ x. then_told (typed ins registers other) _ (typed_told other)
        (λ y. told_if _ _ _ (told_ok _ _ refl) (told_err _ _ refl (other_type _)))))

    rights_told : (left : Ty) (rights : TreeRights) → Told (typed_rights ins registers left rights)
    rights_told left none = told_ok _ (typed_rights ins registers left none) refl
    rights_told left (more operator at right rights) = then_told (typed ins registers right) _ (typed_told right)
        (λ x. told_if _ _ _ (then_told (typed_rights ins registers _ rights) _ (rights_told _ rights) (λ y. told_ok _ _ refl)) (told_err _ _ refl (other_type _)))

  as_told : (ty : Ty) (s : StatementTree) → Told (typed_as ins registers ty s)
  as_told ty s = then_told (typed ins registers s.right) _ (typed_told s.right) (λ x. told_if _ _ _ (told_ok _ _ refl) (told_err _ _ refl (other_type _)))

  statement_told : (ty : Option Ty) (s : StatementTree) → Told (typed_statement ins registers ty s)
  statement_told None s = told_err _ (typed_statement ins registers None s) refl (other_name _)
  statement_told (Some ty) s = as_told ty s

  statements_told : (outs : List Port) (ss : List StatementTree) → Told (typed_statements ins outs registers ss)
  statements_told outs [] = told_ok tt (typed_statements ins outs registers []) refl
  statements_told outs (s ∷ ss) =
      then_told (typed_statement ins registers (left_type outs registers s.left) s) _ (statement_told (left_type outs registers s.left) s) (λ _. statements_told outs ss)

  output_told : (at : ℕ) (ty : Ty) (s : Option StatementTree) → Told (output_value ins registers at ty s)
  output_told at ty None = told_err _ (output_value ins registers at ty None) refl (other_arity at)
  output_told at ty (Some s) = as_told ty s

  outputs_told : (at : ℕ) (ss : List StatementTree) (outs : List Port) → Told (output_values ins registers at ss outs)
  outputs_told at ss [] = told_ok [] (output_values ins registers at ss []) refl
  outputs_told at ss (p ∷ ps) =
      then_told (output_value ins registers at p.ty (statement_named ss p.name)) _ (output_told at p.ty (statement_named ss p.name))
      (λ value. then_told (output_values ins registers at ss ps) _ (outputs_told at ss ps) (λ values. told_ok _ _ refl))

  next_told : (k : ℕ) (ty : Ty) (s : Option StatementTree) → Told (next_value ins registers k ty s)
  next_told k ty None = told_ok _ (next_value ins registers k ty None) refl
  next_told k ty (Some s) = as_told ty s

  registers_told : (ss : List StatementTree) (k : ℕ) (rs : List RegisterText) → Told (resolved_registers ins registers ss k rs)
  registers_told ss k [] = told_ok [] (resolved_registers ins registers ss k []) refl
  registers_told ss k (r ∷ rs) =
      then_told (next_value ins registers k (type_of r.first) (statement_named ss r.name)) _ (next_told k (type_of r.first) (statement_named ss r.name))
      (λ next. then_told (resolved_registers ins registers ss (k + 1) rs) _ (registers_told ss (k + 1) rs) (λ others. told_ok _ _ refl))

fault_told : (at : Option ℕ) → Told (without_fault at)
fault_told None = told_ok tt (without_fault None) refl
fault_told (Some at) = told_err _ (without_fault (Some at)) refl (other_name at)

body_told : (import : Import) (body : TextTree) → Told (checked_body import body)
body_told import body =
    then_told (without_fault (name_fault import.ins import.outs body)) _ (fault_told (name_fault import.ins import.outs body))
    (λ _. then_told (typed_statements import.ins import.outs body.registers body.statements) _ (statements_told import.ins body.registers import.outs body.statements)
    (λ _. then_told (output_values import.ins body.registers body.at.at body.statements import.outs) _ (outputs_told import.ins body.registers body.at.at body.statements import.outs)
    (λ values. then_told (resolved_registers import.ins body.registers body.statements 0 body.registers) _ (registers_told import.ins body.registers body.statements 0 body.registers)
    (λ registers. told_ok _ _ refl))))

one_told : (earlier : List TextTree) (import : Option Import) (b : TextTree) (found : BodyTree → Result (List BodyTree) BodyFault) (other : Result (List BodyTree) BodyFault)
    → ((x : BodyTree) → Told (found x)) → Told other → Told (checked_one earlier import b found other)
one_told earlier None b found other h k = k
one_told earlier (Some import) b found other h k =
    told_if (has_text earlier b.name) (Err (faults.BodyName b.at.at)) (checked_body import b >>= found) (told_err _ _ refl (other_name _))
    (then_told (checked_body import b) found (body_told import b) h)

bodies_told : (imports : List Import) (earlier texts : List TextTree) → Told (checked_bodies imports earlier texts)
bodies_told imports earlier [] = told_ok [] (checked_bodies imports earlier []) refl
bodies_told imports earlier (b ∷ bs) =
    let rest = bodies_told imports (earlier ++ b ∷ []) bs in
    one_told earlier (import_named imports b.name) b _ (checked_bodies imports (earlier ++ b ∷ []) bs)
    (λ x. then_told (checked_bodies imports (earlier ++ b ∷ []) bs) _ rest (λ xs. told_ok _ _ refl)) rest

there_told : (bodies : List BodyTree) (used : List (List ℕ)) → Told (all_there bodies used)
there_told bodies [] = told_ok tt (all_there bodies []) refl
there_told bodies (n ∷ ns) = told_if (has_body bodies n) (all_there bodies ns) (Err (faults.Missing n)) (there_told bodies ns) (told_err _ _ refl (other_missing n))

pub checked_told : (imports : List Import) (used : List (List ℕ)) (texts : List TextTree) → checked imports used texts ≢ Err faults.Memory
checked_told imports used texts =
    then_told (checked_bodies imports [] texts) _ (bodies_told imports [] texts)
    (λ bodies. then_told (all_there bodies used) _ (there_told bodies used) (λ _. told_ok _ _ refl))
