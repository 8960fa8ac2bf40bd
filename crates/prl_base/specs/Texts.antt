-- How values, types and ratios are written. A number is written in decimal, without leading zeros (`decimal`,
-- `signed_decimal` of the library).
use Rattle.std.specs.Prelude.{ℕ, ◌==◌, ◌++◌, true, false, List, [], codes, decimal, if◌then◌else◌}
use Rattle.std.specs.Fmt.{signed_decimal}
use Rattle.prl_base.specs.Ratios.{Fraction}
use Rattle.prl_base.specs.declared.values.Ty.{Ty}
use Rattle.prl_base.specs.declared.values.Ty.TheVariants as types
use Rattle.prl_base.specs.declared.values.Value.{Value}
use Rattle.prl_base.specs.declared.values.Value.TheVariants as values

abbrev pub type_text : Ty → List ℕ
type_text types.Int = codes "int"
type_text types.Bool = codes "bool"

abbrev pub value_text : Value → List ℕ
value_text (values.Int number) = signed_decimal number
value_text (values.Bool true) = codes "true"
value_text (values.Bool false) = codes "false"

-- a ratio that is whole has no denominator
abbrev pub fraction_text : Fraction → List ℕ
fraction_text q = signed_decimal q.num ++ (if q.den == 1 then [] else codes "/" ++ decimal q.den)
