-- The types of values, and the values that a program can hold.
use Rattle.std.specs.Prelude.{◌≡◌, FitsSigned}
use Rattle.std.specs.Int.{w64}
use Rattle.prl_base.specs.declared.values.Ty.{Ty}
use Rattle.prl_base.specs.declared.values.Ty.TheVariants as types
use Rattle.prl_base.specs.declared.values.Value.{Value}
use Rattle.prl_base.specs.declared.values.Value.TheVariants as values

abbrev pub type_of : Value → Ty
type_of (values.Int number) = types.Int
type_of (values.Bool truth) = types.Bool

-- a value is one of 64 bits, where it is a number
abbrev pub FitsValue : Value → Type 0
FitsValue (values.Int number) = FitsSigned w64 number
FitsValue (values.Bool truth) = Unit {0}

-- a value of this type, within its range
abbrev pub IsOfType : Ty → Value → Type 0
IsOfType ty value = (type_of value ≡ ty) × FitsValue value
