-- The digits of a part of a whole.
use Rattle.std.proofs.Common.{◌≡◌, ◌<◌, ◌-◌, ◌/◌, ◌%◌, ◌++◌, ◌==◌, ℕ, zero, suc, false, List, refl, sym, append-nil, arith}
use Rattle.std.specs.Prelude.{decimal}
use Rattle.prl_drawing.specs.Times.{digits_text, product}

pub no_digit : (text : List ℕ) (most part whole : ℕ) → most ≡ 0 → text ≡ text ++ digits_text most part whole
no_digit text most part whole none = rw none (sym (append-nil text))

pub no_part : (text : List ℕ) (most part whole : ℕ) → part ≡ 0 → text ≡ text ++ digits_text most part whole
no_part text zero part whole none = sym (append-nil text)
no_part text (suc most) part whole none = rw none (sym (append-nil text))

some_part : (part : ℕ) → 0 < part → (part == 0) ≡ false
some_part part some = grind (arith, some)

-- one digit, and those behind it
pub one_digit : (most part whole tenths : ℕ) → 0 < most → 0 < part → tenths ≡ product part 10
    → decimal (tenths / whole) ++ digits_text (most - 1) (tenths % whole) whole ≡ digits_text most part whole
one_digit zero part whole tenths more some is = absurd (omega arith)
one_digit (suc most) part whole tenths more some is =
    let no : (part == 0) ≡ false = some_part part some in
    let less : suc most - 1 ≡ most = omega arith in
    rw (is, less, no) refl
