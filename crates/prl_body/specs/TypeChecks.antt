-- Expressions of a text with their names resolved and their types; or the first fault, parts before the whole.
use Rattle.std.specs.Prelude.{ℕ, ◌+◌, ◌-◌, ◌&&◌, List, [], ◌∷◌, length, Option, Some, None, Result, Ok, Err, slice_get, if◌then◌else◌}
use Rattle.std.specs.Str.{bytes_eq}
use Rattle.prl_base.specs.Reading.{◌>>=◌}
use Rattle.prl_base.specs.Values.{type_of}
use Rattle.prl_base.specs.declared.places.Span.{Span}
use Rattle.prl_base.specs.declared.values.Ty.{Ty}
use Rattle.prl_base.specs.declared.values.Ty.TheVariants as types
use Rattle.prl_ast.specs.declared.declarations.Port.{Port}
use Rattle.prl_body.specs.declared.codes.Variable.{Variable}
use Rattle.prl_body.specs.declared.codes.Variable.TheVariants as variables
use Rattle.prl_body.specs.declared.faults.BodyFault.{BodyFault}
use Rattle.prl_body.specs.declared.faults.BodyFault.TheVariants as faults
use Rattle.prl_body.specs.declared.texts.RegisterText.{RegisterText}
use Rattle.prl_body.specs.Expressions.{Expression, Rights}
use Rattle.prl_body.specs.Expressions as expressions
use Rattle.prl_body.specs.Texts.{Tree, constant, name, run, series, choice, TreeRights, none, more}
use Rattle.prl_base.specs.declared.body_operators.Prefix.{Prefix}
use Rattle.prl_base.specs.BodyTypes.{is_same_type, are_allowed, operand_type, result_type, prefix_type}

-- the first input of this name and its type; the inputs are counted from k
abbrev pub input_named : ℕ → List Port → List ℕ → Option (Variable × Ty)
input_named k [] n = None
input_named k (p ∷ ps) n = if bytes_eq p.name n then Some (variables.Input k, p.ty) else input_named (k + 1) ps n

abbrev pub register_named : ℕ → List RegisterText → List ℕ → Option (Variable × Ty)
register_named k [] n = None
register_named k (r ∷ rs) n = if bytes_eq r.name n then Some (variables.Register k, type_of r.first) else register_named (k + 1) rs n

abbrev pub either_variable : Option (Variable × Ty) → Option (Variable × Ty) → Option (Variable × Ty)
either_variable None other = other
either_variable (Some variable) other = Some variable

-- what a name of an expression stands for
abbrev pub named : List Port → List RegisterText → List ℕ → Option (Variable × Ty)
named ins registers n = either_variable (input_named 0 ins n) (register_named 0 registers n)

abbrev pub typed_name : Span → Option (Variable × Ty) → Result (Expression × Ty) BodyFault
typed_name at None = Err (faults.BodyName at.at)
typed_name at (Some x) = Ok (expressions.name x.0, x.1)

abbrev pub at_of : Option Span → ℕ
at_of None = 0
at_of (Some span) = span.at

-- the operator next to the operand
abbrev pub last_at : List Span → ℕ
last_at ats = at_of (slice_get ats (length ats - 1))

-- an operand of this type after the operators of a run
abbrev pub typed_run : Prefix → List Span → Expression × Ty → Result (Expression × Ty) BodyFault
typed_run prefix ats x = if is_same_type x.1 (prefix_type prefix) then Ok (expressions.run prefix (length ats) x.0, x.1) else Err (faults.BodyType (last_at ats))

-- a choice between two of one type
abbrev pub typed_choice : Span → Expression × Ty → Expression × Ty → Expression × Ty → Result (Expression × Ty) BodyFault
typed_choice at t x y = if is_same_type t.1 types.Bool && is_same_type x.1 y.1 then Ok (expressions.choice t.0 x.0 y.0, x.1) else Err (faults.BodyType at.at)

abbrev mutual
  pub typed : List Port → List RegisterText → Tree → Result (Expression × Ty) BodyFault
  typed ins registers (constant v) = Ok (expressions.constant v, type_of v)
  typed ins registers (name n at) = typed_name at (named ins registers n)
  typed ins registers (run prefix ats of) = typed ins registers of >>= λ x. typed_run prefix ats x
  typed ins registers (series first rights) = typed ins registers first >>= λ x. (typed_rights ins registers x.1 rights >>= λ y.
      Ok (expressions.series x.0 y.0, y.1))
  typed ins registers (choice at test chosen other) = typed ins registers test >>= λ t. (typed ins registers chosen >>= λ x. (typed ins registers other >>= λ y.
      typed_choice at t x y))

  -- after a left operand of this type
  pub typed_rights : List Port → List RegisterText → Ty → TreeRights → Result (Rights × Ty) BodyFault
  typed_rights ins registers left none = Ok (expressions.none, left)
  typed_rights ins registers left (more operator at right rights) = typed ins registers right >>= λ x.
      if are_allowed (operand_type operator) left x.1
      then (typed_rights ins registers (result_type operator) rights >>= λ y. Ok (expressions.more operator x.0 y.0, y.1))
      else Err (faults.BodyType at.at)
