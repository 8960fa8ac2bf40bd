-- The values of numbers and ratios. Numbers past the greatest of their range count as that one here: that all are in
-- range is said apart.
use Rattle.std.specs.Prelude.{ℕ, zero, suc, ◌/◌, ◌%◌, ◌==◌, ◌&&◌, min, pos, Option, Some, None, if◌then◌else◌}
use Rattle.prl_base.specs.Ratios.{Fraction}
use Rattle.prl_base.specs.declared.ratios.TheConstants.{MAX_PART}

-- a count, a numerator or a due
abbrev pub small : ℕ → ℕ
small n = min n MAX_PART

-- among the numbers up to k, the greatest that divides both; 1 where there is none
abbrev pub divisor_up_to : ℕ → ℕ → ℕ → ℕ
divisor_up_to zero a b = 1
divisor_up_to (suc k) a b = if (a % suc k == 0) && (b % suc k == 0) then suc k else divisor_up_to k a b

-- the greatest number that divides both
unfoldable pub common_divisor : ℕ → ℕ → ℕ
common_divisor a b = divisor_up_to b a b

abbrev pub reduced : ℕ → ℕ → Fraction
reduced num den = record { num = pos (num / common_divisor num den); den = den / common_divisor num den }

-- the reduced ratio; 0 where the denominator is
abbrev pub ratio_of : ℕ → ℕ → Fraction
ratio_of num den = if small den == 0 then record { num = pos 0; den = 1 } else reduced (small num) (small den)

-- a number without a denominator is whole
abbrev pub ratio_with : ℕ → Option ℕ → Fraction
ratio_with num None = ratio_of num 1
ratio_with num (Some den) = ratio_of num den
