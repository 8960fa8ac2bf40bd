-- The value of an expression has the expression's type.
use Rattle.prl_base.proofs.Standard.{◌≡◌, ℕ, zero, suc, Bool, true, false, List, [], ◌∷◌, length, map, slice_get, slice_index_or, Some, refl, ◌∙◌, ap, if◌then◌else◌, pos}
use Rattle.prl_base.specs.Values.{type_of}
use Rattle.prl_base.specs.declared.values.Ty.{Ty}
use Rattle.prl_base.specs.declared.values.Value.{Value}
use Rattle.prl_base.specs.declared.values.Value.TheVariants as values
use Rattle.prl_body.specs.Vocabulary.{Variable, Expression, name, Rights, none, variable_type, HasType, RightsHaveType, variable_value, prefixed_times, value, value_along, CheckedBody, HaveTypes}
use Rattle.prl_body.specs.Vocabulary.{IsWellTyped, input_types, output_types, register_types, value_expressions, next_expressions}
use Rattle.prl_body.specs.Expressions.{constant, run, series, choice, more}
use Rattle.prl_body.specs.declared.codes.Variable.TheVariants as variables
use Rattle.prl_base.specs.declared.body_operators.Operator.{Operator}
use Rattle.prl_base.specs.declared.body_operators.Operator.TheVariants as operators
use Rattle.prl_base.specs.declared.body_operators.Prefix.{Prefix}
use Rattle.prl_base.specs.declared.body_operators.Prefix.TheVariants as prefixes
use Rattle.prl_base.specs.BodyOperators.{truth_of, prefixed, result_of}
use Rattle.prl_base.specs.BodyTypes.{result_type, prefix_type}

type_of_result : (operator : Operator) (a b : Value) → type_of (result_of operator a b) ≡ result_type operator
type_of_result operators.Or a b = refl
type_of_result operators.Xor a b = refl
type_of_result operators.And a b = refl
type_of_result operators.Equal a b = refl
type_of_result operators.Unequal a b = refl
type_of_result operators.Less a b = refl
type_of_result operators.AtMost a b = refl
type_of_result operators.Greater a b = refl
type_of_result operators.AtLeast a b = refl
type_of_result operators.Plus a b = refl
type_of_result operators.Minus a b = refl
type_of_result operators.Times a b = refl
type_of_result operators.Over a b = refl
type_of_result operators.Modulo a b = refl

type_of_prefixed : (prefix : Prefix) (a : Value) → type_of (prefixed prefix a) ≡ prefix_type prefix
type_of_prefixed prefixes.Not a = refl
type_of_prefixed prefixes.Negated a = refl

type_of_prefixed_times : (prefix : Prefix) (times : ℕ) (a : Value) → type_of a ≡ prefix_type prefix →
    type_of (prefixed_times prefix times a) ≡ prefix_type prefix
type_of_prefixed_times prefix zero a typed = typed
type_of_prefixed_times prefix (suc n) a typed = type_of_prefixed prefix (prefixed_times prefix n a)

type_of_element : (values : List Value) (k : ℕ) (t : Ty) (d : Value) → slice_get (map type_of values) k ≡ Some t → type_of (slice_index_or values k d) ≡ t
type_of_element [] k t d found = cc
type_of_element (v ∷ vs) zero t d found = cc
type_of_element (v ∷ vs) (suc k) t d found = type_of_element vs k t d found

type_of_variable : (inputs registers : List Value) (variable : Variable) (t : Ty) →
    variable_type (map type_of inputs) (map type_of registers) variable ≡ Some t → type_of (variable_value inputs registers variable) ≡ t
type_of_variable inputs registers (variables.Input k) t found = type_of_element inputs k t (values.Int (pos 0)) found
type_of_variable inputs registers (variables.Register k) t found = type_of_element registers k t (values.Int (pos 0)) found

type_of_choice : (b : Bool) (x y : Value) (t : Ty) → type_of x ≡ t → type_of y ≡ t → type_of (if b then x else y) ≡ t
type_of_choice true x y t left right = left
type_of_choice false x y t left right = right

mutual
  pub type_of_value : (inputs registers : List Value) (e : Expression) (t : Ty) →
      HasType (map type_of inputs) (map type_of registers) e t → type_of (value inputs registers e) ≡ t
  type_of_value inputs registers (constant v) t typed = typed
  type_of_value inputs registers (name variable) t typed = type_of_variable inputs registers variable t typed
  type_of_value inputs registers (run prefix times of) t typed =
      type_of_prefixed_times prefix times (value inputs registers of) (type_of_value inputs registers of (prefix_type prefix) typed.0) ∙ typed.1
  type_of_value inputs registers (series first rights) t typed =
      type_of_value_along inputs registers (value inputs registers first) rights typed.0 t (type_of_value inputs registers first typed.0 typed.1) typed.2
  type_of_value inputs registers (choice test chosen other) t typed =
      type_of_choice (truth_of (value inputs registers test)) (value inputs registers chosen) (value inputs registers other) t
      (type_of_value inputs registers chosen t typed.1) (type_of_value inputs registers other t typed.2)

  type_of_value_along : (inputs registers : List Value) (left : Value) (rights : Rights) (s t : Ty) →
      type_of left ≡ s → RightsHaveType (map type_of inputs) (map type_of registers) s rights t →
      type_of (value_along inputs registers left rights) ≡ t
  type_of_value_along inputs registers left none s t is typed = is ∙ typed
  type_of_value_along inputs registers left (more operator right rights) s t is typed =
      type_of_value_along inputs registers (result_of operator left (value inputs registers right)) rights (result_type operator) t
      (type_of_result operator left (value inputs registers right)) typed.1

pub types_values : (inputs registers : List Value) (es : List Expression) (ts : List Ty) →
    HaveTypes (map type_of inputs) (map type_of registers) es ts → map type_of (map (value inputs registers) es) ≡ ts
types_values inputs registers [] [] typed = refl
types_values inputs registers [] (t ∷ ts) typed = absurd typed
types_values inputs registers (e ∷ es) [] typed = absurd typed
types_values inputs registers (e ∷ es) (t ∷ ts) typed =
    let first = type_of_value inputs registers e t typed.0 in
    let rest = types_values inputs registers es ts typed.1 in
    cc

pub length_HaveTypes : (ins regs : List Ty) (es : List Expression) (ts : List Ty) → HaveTypes ins regs es ts → length es ≡ length ts
length_HaveTypes ins regs [] [] typed = refl
length_HaveTypes ins regs [] (t ∷ ts) typed = absurd typed
length_HaveTypes ins regs (e ∷ es) [] typed = absurd typed
length_HaveTypes ins regs (e ∷ es) (t ∷ ts) typed = ap suc (length_HaveTypes ins regs es ts typed.1)

-- the outputs of a step have the types of the import's, and the registers keep their types
pub types_step : (body : CheckedBody) (inputs registers : List Value) → IsWellTyped body → map type_of inputs ≡ input_types body →
    map type_of registers ≡ register_types body →
    (map type_of (map (value inputs registers) (value_expressions body)) ≡ output_types body)
    × (map type_of (map (value inputs registers) (next_expressions body)) ≡ register_types body)
types_step body inputs registers typed ins regs = (
  types_values inputs registers (value_expressions body) (output_types body) (rw (ins, regs) typed.outputs),
  types_values inputs registers (next_expressions body) (register_types body) (rw (ins, regs) typed.registers),
)
