-- The ranges of the numbers of programs. What stands before a number tells its range: whether a rate is being read there,
-- from `rate` to its `)`, and the token just before it.
use Rattle.std.specs.Prelude.{ℕ, ◌==◌, ◌&&◌, ◌||◌, nat_le, Bool, if◌then◌else◌}
use Rattle.prl_base.specs.declared.ratios.TheConstants.{MAX_PART}
use Rattle.prl_lex.specs.Ranges.{Ranges}
use Rattle.prl_base.specs.declared.decimals.TheConstants.{MAX_NEGATIVE, MAX_POSITIVE}
use Rattle.prl_syntax.specs.declared.words.Fixed.TheVariants as fixed
use Rattle.prl_syntax.specs.Words.{class_of}

-- the period of a rate, a worst-case execution time, a factor or a denominator is next
abbrev pub is_count : Bool → ℕ → Bool
is_count in_rate last =
    ((last == class_of fixed.Open) && in_rate) || (last == class_of fixed.Wcet) || (last == class_of fixed.Up)
    || (last == class_of fixed.Down) || (last == class_of fixed.Slash)

-- the numerator of a rate or of a shift, or a due, is next
abbrev pub is_part : Bool → ℕ → Bool
is_part in_rate last = in_rate || (last == class_of fixed.Due) || (last == class_of fixed.Shift)

-- the greatest number of a constant
abbrev pub greatest : ℕ → ℕ
greatest last = if last == class_of fixed.Minus then MAX_NEGATIVE else MAX_POSITIVE

-- counts are from 1, numerators and dues from 0, and all other numbers are constants
abbrev pub in_range : Bool → ℕ → ℕ → Bool
in_range in_rate last n =
    if is_count in_rate last then nat_le 1 n && nat_le n MAX_PART
    else (if is_part in_rate last then nat_le n MAX_PART else nat_le n (greatest last))

abbrev pub program_ranges : Ranges
program_ranges = record { begins = class_of fixed.Rate; ends = class_of fixed.Close; fits = in_range }
