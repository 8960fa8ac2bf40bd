-- Decimal numbers as texts spell them.
use Rattle.std.specs.Prelude.{◌==◌, ◌^◌, ◌&&◌, ℕ, zero, suc, ℤ, pos, negsuc, Bool, false, List, [], ◌∷◌, Option, Some, None, nat_lt, nat_le, if◌then◌else◌}
use Rattle.std.specs.Char.{is_ascii_digit}
use Rattle.std.specs.List.{list_all}
use Rattle.std.specs.Option.{option_and_then}
use Rattle.std.specs.Str.Parse.{digits_value}
use Rattle.prl_base.specs.declared.decimals.TheConstants.{MAX_NEGATIVE, MAX_POSITIVE}

-- one digit or more, and nothing else
abbrev pub are_digits : List ℕ → Bool
are_digits [] = false
are_digits (b ∷ bs) = is_ascii_digit b && list_all is_ascii_digit bs

-- the number that digits spell, below 2^64
abbrev pub decimal_of : List ℕ → Option ℕ
decimal_of text = if are_digits text && nat_lt (digits_value 10 text) (2 ^ 64) then Some (digits_value 10 text) else None

-- the integer of 64 bits with this sign and size
abbrev pub positive : ℕ → Option ℤ
positive size = if nat_le size MAX_POSITIVE then Some (pos size) else None

abbrev pub negative : ℕ → Option ℤ
negative zero = Some (pos 0)
negative (suc n) = if nat_lt n MAX_NEGATIVE then Some (negsuc n) else None

-- the integer of 64 bits that a text spells: digits, after at most one `-`
abbrev pub integer_of : List ℕ → Option ℤ
integer_of [] = None
integer_of (b ∷ bs) = if b == 45 then option_and_then negative (decimal_of bs) else option_and_then positive (decimal_of (b ∷ bs))
