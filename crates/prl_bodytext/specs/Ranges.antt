-- The ranges of the numbers of bodies. What stands before a number tells its range: whether a register is being declared
-- there, from `reg` to its `;`, and the token just before it.
use Rattle.std.specs.Prelude.{ℕ, ◌==◌, ◌&&◌, nat_le, Bool, if◌then◌else◌}
use Rattle.prl_lex.specs.Ranges.{Ranges}
use Rattle.prl_base.specs.declared.decimals.TheConstants.{MAX_NEGATIVE, MAX_POSITIVE}
use Rattle.prl_bodytext.specs.declared.words.Fixed.TheVariants as fixed
use Rattle.prl_bodytext.specs.Words.{class_of}

-- the greatest number: in an expression a minus is an operator, and so only a first value is the least integer
abbrev pub greatest : Bool → ℕ → ℕ
greatest declares last = if declares && (last == class_of fixed.Minus) then MAX_NEGATIVE else MAX_POSITIVE

abbrev pub in_range : Bool → ℕ → ℕ → Bool
in_range declares last n = nat_le n (greatest declares last)

abbrev pub body_ranges : Ranges
body_ranges = record { begins = class_of fixed.Reg; ends = class_of fixed.Semicolon; fits = in_range }
