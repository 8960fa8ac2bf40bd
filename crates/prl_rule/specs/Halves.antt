-- The two halves of a value, and the words that carry them.
use Rattle.std.specs.Prelude.{◌≡◌, ◌+◌, ◌*◌, ◌/◌, ◌%◌, ◌^◌, ◌<◌, ◌==◌, if◌then◌else◌, ℕ}
use Rattle.std.specs.Int.{w64, cast_signed, cast_unsigned}
use Rattle.prl_base.specs.declared.values.Ty.{Ty}
use Rattle.prl_base.specs.declared.values.Ty.TheVariants as types
use Rattle.prl_base.specs.declared.values.Value.{Value}
use Rattle.prl_base.specs.declared.values.Value.TheVariants as values

-- the 64 bits of a value: of an integer its two's complement
abbrev pub bits_of : Value → ℕ
bits_of (values.Int number) = cast_unsigned w64 number
bits_of (values.Bool truth) = if truth then 1 else 0

abbrev pub low_half : Value → ℕ
low_half value = bits_of value % 2 ^ 32

abbrev pub high_half : Value → ℕ
high_half value = bits_of value / 2 ^ 32 % 2 ^ 32

-- a value of this type has these halves: of a Boolean the low one tells it, as 0 or 1, and the high one is 0
abbrev pub AreHalves : Ty → ℕ → ℕ → Type 0
AreHalves types.Int low high = (low < 2 ^ 32) × (high < 2 ^ 32)
AreHalves types.Bool low high = (low < 2) × (high ≡ 0)

-- the value of this type that has these halves
abbrev pub value_of_halves : Ty → ℕ → ℕ → Value
value_of_halves types.Int low high = values.Int (cast_signed w64 (high * 2 ^ 32 + low))
value_of_halves types.Bool low high = values.Bool (low == 1)

-- the word of a half: its tag in the high 32 bits
abbrev pub tagged : ℕ → ℕ → ℕ
tagged tag half = tag * 2 ^ 32 + half
