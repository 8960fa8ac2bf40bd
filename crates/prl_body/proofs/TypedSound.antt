-- An expression that the check gives a type has that type.
use Rattle.prl_base.proofs.Standard.{◌≡◌, ◌+◌, ℕ, suc, Bool, true, false, List, [], ◌∷◌, length, map, slice_get, Option, Some, None, Result, Ok, Err, refl, sym, ◌∙◌, ap, subst, arith, if◌then◌else◌}
use Rattle.prl_base.proofs.Standard.{◌&&◌, bytes_eq, and_parts}
use Rattle.prl_base.specs.Vocabulary.{◌>>=◌, type_of}
use Rattle.prl_base.specs.declared.places.Span.{Span}
use Rattle.prl_base.specs.declared.values.Ty.{Ty}
use Rattle.prl_base.specs.declared.values.Ty.TheVariants as types
use Rattle.prl_ast.specs.declared.declarations.Port.{Port}
use Rattle.prl_body.specs.Vocabulary.{Variable, BodyFault, RegisterText, Expression, Rights, Tree, constant, run, series, choice, TreeRights, more, input_named, register_named, either_variable, named}
use Rattle.prl_body.specs.Vocabulary.{typed_name, last_at, typed, typed_rights, variable_type, HasType, RightsHaveType}
use Rattle.prl_body.specs.Texts.{name, none}
use Rattle.prl_body.specs.declared.codes.Variable.TheVariants as variables
use Rattle.prl_body.specs.declared.faults.BodyFault.TheVariants as faults
use Rattle.prl_body.specs.Expressions as expressions
use Rattle.prl_base.specs.BodyTypes.{is_same_type, are_allowed, operand_type, result_type, prefix_type}
use Rattle.prl_body.proofs.Inversion.{both_ok, passed_ok}

abbrev pub port_types : List Port → List Ty
port_types ins = map (λ (p : Port). p.ty) ins

abbrev pub text_types : List RegisterText → List Ty
text_types registers = map (λ (r : RegisterText). type_of r.first) registers

pub same_type : (a b : Ty) → is_same_type a b ≡ true → a ≡ b
same_type types.Int types.Int same = refl
same_type types.Int types.Bool same = cc
same_type types.Bool types.Int same = cc
same_type types.Bool types.Bool same = refl

-- x.0 is the input, or the register, of this number after the first k, and x.1 is its type
record IsAt (variable : ℕ → Variable) (ts : List Ty) (k : ℕ) (x : Variable × Ty) : Type 0 where
  number : ℕ
  is : x.0 ≡ variable (k + number)
  type : slice_get ts number ≡ Some x.1

at_step : (variable : ℕ → Variable) (ty : Ty) (ts : List Ty) (b : Bool) (k : ℕ) (x : Variable × Ty) (rest : Option (Variable × Ty)) →
    (rest ≡ Some x → IsAt variable ts (k + 1) x) → (if b then Some (variable k, ty) else rest) ≡ Some x → IsAt variable (ty ∷ ts) k x
at_step variable ty ts true k x rest later is =
    let same : (variable k, ty) ≡ x = cc in
    let sum : k ≡ k + 0 = omega arith in
    record { number = 0; is = sym (ap (λ (y : Variable × Ty). y.0) same) ∙ ap variable sum; type = ap (λ (y : Variable × Ty). Some y.1) same }
at_step variable ty ts false k x rest later is =
    let tail = later is in
    let sum : k + 1 + tail.number ≡ k + suc tail.number = omega arith in
    record { number = suc tail.number; is = tail.is ∙ ap variable sum; type = tail.type }

input_found : (k : ℕ) (ports : List Port) (n : List ℕ) (x : Variable × Ty) → input_named k ports n ≡ Some x → IsAt variables.Input (port_types ports) k x
input_found k [] n x found = absurd (cc)
input_found k (p ∷ ps) n x found = at_step variables.Input p.ty (port_types ps) (bytes_eq p.name n) k x (input_named (k + 1) ps n) (input_found (k + 1) ps n x) found

register_found : (k : ℕ) (registers : List RegisterText) (n : List ℕ) (x : Variable × Ty) → register_named k registers n ≡ Some x →
    IsAt variables.Register (text_types registers) k x
register_found k [] n x found = absurd (cc)
register_found k (r ∷ rs) n x found =
    at_step variables.Register (type_of r.first) (text_types rs) (bytes_eq r.name n) k x (register_named (k + 1) rs n) (register_found (k + 1) rs n x) found

type_at : (ins : List Port) (registers : List RegisterText) (variable : ℕ → Variable) (ts : List Ty) (x : Variable × Ty) →
    ((m : ℕ) → variable_type (port_types ins) (text_types registers) (variable m) ≡ slice_get ts m) → IsAt variable ts 0 x →
    variable_type (port_types ins) (text_types registers) x.0 ≡ Some x.1
type_at ins registers variable ts x each found =
    ap (variable_type (port_types ins) (text_types registers)) (found.is ∙ ap variable (omega arith)) ∙ each found.number ∙ found.type

either_found : {P : Type 0} (a b : Option (Variable × Ty)) (x : Variable × Ty) → (a ≡ Some x → P) → (b ≡ Some x → P) → either_variable a b ≡ Some x → P
either_found None b x left right found = right found
either_found (Some y) b x left right found = left found

named_found : (ins : List Port) (registers : List RegisterText) (n : List ℕ) (x : Variable × Ty) → named ins registers n ≡ Some x →
    variable_type (port_types ins) (text_types registers) x.0 ≡ Some x.1
named_found ins registers n x found =
    either_found (input_named 0 ins n) (register_named 0 registers n) x
    (λ is. type_at ins registers variables.Input (port_types ins) x (λ m. refl) (input_found 0 ins n x is))
    (λ is. type_at ins registers variables.Register (text_types registers) x (λ m. refl) (register_found 0 registers n x is)) found

name_sound : (ins : List Port) (registers : List RegisterText) (at : Span) (o : Option (Variable × Ty)) (x : Expression × Ty) →
    ((y : Variable × Ty) → o ≡ Some y → variable_type (port_types ins) (text_types registers) y.0 ≡ Some y.1) →
    typed_name at o ≡ Ok x → HasType (port_types ins) (text_types registers) x.0 x.1
name_sound ins registers at None x each is = absurd (cc)
name_sound ins registers at (Some y) x each is =
    let same : (expressions.name y.0, y.1) ≡ x = cc in
    let Typed : Expression × Ty → Type 0 = λ z. HasType (port_types ins) (text_types registers) z.0 z.1 in
    subst Typed same (each y refl)

mutual
  pub typed_sound : (ins : List Port) (registers : List RegisterText) (tree : Tree) (x : Expression × Ty) → typed ins registers tree ≡ Ok x →
      HasType (port_types ins) (text_types registers) x.0 x.1
  typed_sound ins registers (constant v) x is =
      let same : (expressions.constant v, type_of v) ≡ x = cc in
      let Typed : Expression × Ty → Type 0 = λ z. HasType (port_types ins) (text_types registers) z.0 z.1 in
      subst Typed same refl
  typed_sound ins registers (name n at) x is = name_sound ins registers at (named ins registers n) x (named_found ins registers n) is
  typed_sound ins registers (run prefix ats of) x is =
      let after : Expression × Ty → Result (Expression × Ty) BodyFault = λ y. (if is_same_type y.1 (prefix_type prefix) then Ok (expressions.run prefix (length ats) y.0, y.1) else Err (faults.BodyType (last_at ats))) in
      let both = both_ok (typed ins registers of) after x is in
      let passed = passed_ok (is_same_type both.first.1 (prefix_type prefix)) (Ok (expressions.run prefix (length ats) both.first.0, both.first.1)) x (faults.BodyType (last_at ats)) both.rest in
      let type = same_type both.first.1 (prefix_type prefix) passed.0 in
      let same : (expressions.run prefix (length ats) both.first.0, both.first.1) ≡ x = cc (passed.1) in
      let inner = typed_sound ins registers of both.first both.is in
      let Typed : Expression × Ty → Type 0 = λ z. HasType (port_types ins) (text_types registers) z.0 z.1 in
      let Inner : Ty → Type 0 = λ s. HasType (port_types ins) (text_types registers) both.first.0 s in
      subst Typed same (subst Inner type inner, sym type)
  typed_sound ins registers (series first rights) x is =
      let after : Expression × Ty → Result (Expression × Ty) BodyFault = λ y. (typed_rights ins registers y.1 rights >>= λ z. Ok (expressions.series y.0 z.0, z.1)) in
      let both = both_ok (typed ins registers first) after x is in
      let last : Rights × Ty → Result (Expression × Ty) BodyFault = λ z. Ok (expressions.series both.first.0 z.0, z.1) in
      let next = both_ok (typed_rights ins registers both.first.1 rights) last x both.rest in
      let same : (expressions.series both.first.0 next.first.0, next.first.1) ≡ x = cc (next.rest) in
      let Typed : Expression × Ty → Type 0 = λ z. HasType (port_types ins) (text_types registers) z.0 z.1 in
      subst Typed same (both.first.1, typed_sound ins registers first both.first both.is, rights_sound ins registers both.first.1 rights next.first next.is)
  typed_sound ins registers (choice at test chosen other) x is =
      let after : Expression × Ty → Result (Expression × Ty) BodyFault = λ t. (typed ins registers chosen >>= λ y. (typed ins registers other >>= λ z.
      (if is_same_type t.1 types.Bool && is_same_type y.1 z.1 then Ok (expressions.choice t.0 y.0 z.0, y.1) else Err (faults.BodyType at.at)))) in
      let one = both_ok (typed ins registers test) after x is in
      let after' : Expression × Ty → Result (Expression × Ty) BodyFault = λ y. (typed ins registers other >>= λ z.
      (if is_same_type one.first.1 types.Bool && is_same_type y.1 z.1 then Ok (expressions.choice one.first.0 y.0 z.0, y.1) else Err (faults.BodyType at.at))) in
      let two = both_ok (typed ins registers chosen) after' x one.rest in
      let last : Expression × Ty → Result (Expression × Ty) BodyFault = λ z.
      (if is_same_type one.first.1 types.Bool && is_same_type two.first.1 z.1 then Ok (expressions.choice one.first.0 two.first.0 z.0, two.first.1) else Err (faults.BodyType at.at)) in
      let three = both_ok (typed ins registers other) last x two.rest in
      let fit = is_same_type one.first.1 types.Bool && is_same_type two.first.1 three.first.1 in
      let passed = passed_ok fit (Ok (expressions.choice one.first.0 two.first.0 three.first.0, two.first.1)) x (faults.BodyType at.at) three.rest in
      let test_type = same_type one.first.1 types.Bool (and_parts (is_same_type one.first.1 types.Bool) (is_same_type two.first.1 three.first.1) passed.0).0 in
      let other_type = same_type two.first.1 three.first.1 (and_parts (is_same_type one.first.1 types.Bool) (is_same_type two.first.1 three.first.1) passed.0).1 in
      let same : (expressions.choice one.first.0 two.first.0 three.first.0, two.first.1) ≡ x = cc (passed.1) in
      let Typed : Expression × Ty → Type 0 = λ z. HasType (port_types ins) (text_types registers) z.0 z.1 in
      let Test : Ty → Type 0 = λ s. HasType (port_types ins) (text_types registers) one.first.0 s in
      let Other : Ty → Type 0 = λ s. HasType (port_types ins) (text_types registers) three.first.0 s in
      subst Typed same (subst Test test_type (typed_sound ins registers test one.first one.is), typed_sound ins registers chosen two.first two.is, subst Other (sym other_type) (typed_sound ins registers other three.first three.is))

  pub rights_sound : (ins : List Port) (registers : List RegisterText) (left : Ty) (rights : TreeRights) (x : Rights × Ty) → typed_rights ins registers left rights ≡ Ok x →
      RightsHaveType (port_types ins) (text_types registers) left x.0 x.1
  rights_sound ins registers left none x is =
      let same : (expressions.none, left) ≡ x = cc in
      let Typed : Rights × Ty → Type 0 = λ z. RightsHaveType (port_types ins) (text_types registers) left z.0 z.1 in
      subst Typed same refl
  rights_sound ins registers left (more operator at right rights) x is =
      let after : Expression × Ty → Result (Rights × Ty) BodyFault = λ y. (if are_allowed (operand_type operator) left y.1
      then (typed_rights ins registers (result_type operator) rights >>= λ z. Ok (expressions.more operator y.0 z.0, z.1)) else Err (faults.BodyType at.at)) in
      let both = both_ok (typed ins registers right) after x is in
      let last : Rights × Ty → Result (Rights × Ty) BodyFault = λ z. Ok (expressions.more operator both.first.0 z.0, z.1) in
      let passed = passed_ok (are_allowed (operand_type operator) left both.first.1) (typed_rights ins registers (result_type operator) rights >>= last) x (faults.BodyType at.at) both.rest in
      let next = both_ok (typed_rights ins registers (result_type operator) rights) last x passed.1 in
      let same : (expressions.more operator both.first.0 next.first.0, next.first.1) ≡ x = cc (next.rest) in
      let Typed : Rights × Ty → Type 0 = λ z. RightsHaveType (port_types ins) (text_types registers) left z.0 z.1 in
      subst Typed same ((both.first.1, typed_sound ins registers right both.first both.is, passed.0), rights_sound ins registers (result_type operator) rights next.first next.is)
