-- Values as levels: natural numbers in the order of the values.
use Rattle.std.specs.Prelude.{◌+◌, ◌-◌, ◌^◌, ℕ, suc, ℤ, pos, negsuc, true, false}
use Rattle.prl_base.specs.declared.values.Value.{Value}
use Rattle.prl_base.specs.declared.values.Value.TheVariants as values

-- how far an integer of 64 bits is above the least one
abbrev pub level_of_int : ℤ → ℕ
level_of_int (pos n) = 2 ^ 63 + n
level_of_int (negsuc n) = 2 ^ 63 - suc n

abbrev pub level_of : Value → ℕ
level_of (values.Int number) = level_of_int number
level_of (values.Bool true) = 1
level_of (values.Bool false) = 0
