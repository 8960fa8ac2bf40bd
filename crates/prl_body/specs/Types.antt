-- The types of expressions.
use Rattle.std.specs.Prelude.{◌≡◌, true, List, Option, Some, slice_get}
use Rattle.prl_base.specs.declared.values.Ty.{Ty}
use Rattle.prl_base.specs.declared.values.Ty.TheVariants as types
use Rattle.prl_base.specs.Values.{type_of}
use Rattle.prl_body.specs.declared.codes.Variable.{Variable}
use Rattle.prl_body.specs.declared.codes.Variable.TheVariants as variables
use Rattle.prl_base.specs.BodyTypes.{are_allowed, operand_type, result_type, prefix_type}
use Rattle.prl_body.specs.Expressions.{Expression, constant, name, run, series, choice, Rights, none, more}

-- the type of an input or a register, where there is one of this number
abbrev pub variable_type : List Ty → List Ty → Variable → Option Ty
variable_type ins regs (variables.Input k) = slice_get ins k
variable_type ins regs (variables.Register k) = slice_get regs k

abbrev mutual
  -- for inputs and registers of these types
  pub HasType : List Ty → List Ty → Expression → Ty → Type 0
  HasType ins regs (constant v) t = type_of v ≡ t
  HasType ins regs (name variable) t = variable_type ins regs variable ≡ Some t
  HasType ins regs (run prefix times of) t = HasType ins regs of (prefix_type prefix) × (prefix_type prefix ≡ t)
  HasType ins regs (series first rights) t = (s : Ty) × HasType ins regs first s × RightsHaveType ins regs s rights t
  HasType ins regs (choice test chosen other) t = HasType ins regs test types.Bool × HasType ins regs chosen t × HasType ins regs other t

  -- after a left operand of this type
  pub RightsHaveType : List Ty → List Ty → Ty → Rights → Ty → Type 0
  RightsHaveType ins regs left none t = left ≡ t
  RightsHaveType ins regs left (more operator right rights) t =
      ((r : Ty) × HasType ins regs right r × (are_allowed (operand_type operator) left r ≡ true)) × RightsHaveType ins regs (result_type operator) rights t
