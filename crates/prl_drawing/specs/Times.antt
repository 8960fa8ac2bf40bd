-- Times in a unit.
use Rattle.std.specs.Prelude.{◌-◌, ◌*◌, ◌/◌, ◌%◌, ◌^◌, ◌++◌, ◌==◌, ℕ, zero, suc, List, [], codes, decimal, if◌then◌else◌, max, min}
use Rattle.prl_drawing.specs.declared.units.TheConstants.{MOST_DIGITS}
use Rattle.prl_drawing.specs.declared.units.Unit.{Unit}

-- a product, as far as 64 bits go
abbrev pub product : ℕ → ℕ → ℕ
product a b = min (a * b) (2 ^ 64 - 1)

-- the digits of a part of a whole, up to the last one that is not 0, and at most so many
abbrev pub digits_text : ℕ → ℕ → ℕ → List ℕ
digits_text zero part whole = []
digits_text (suc n) part whole =
    if part == 0 then [] else decimal (product part 10 / whole) ++ digits_text n (product part 10 % whole) whole

-- what stands behind the whole number: nothing where no part is left
abbrev pub behind_text : ℕ → ℕ → List ℕ
behind_text part whole = if part == 0 then [] else codes "." ++ digits_text MOST_DIGITS part whole

-- so many parts of a whole, as a decimal number
abbrev pub parts_text : ℕ → ℕ → List ℕ
parts_text parts whole = decimal (parts / whole) ++ behind_text (parts % whole) whole

-- when a tick is, in this unit
abbrev pub time_text : Unit → ℕ → List ℕ
time_text unit tick = parts_text (product tick unit.parts) (max unit.whole 1)
