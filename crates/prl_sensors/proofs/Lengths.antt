-- How long numbers are in decimal.
use Rattle.prl_base.proofs.Standard.{◌<◌, ◌≤◌, ◌^◌, ℕ, length, arith, length-decimal-le}
use Rattle.std.specs.Fmt.{decimal}

pub number_length : (n : ℕ) → n < 2 ^ 64 → length (decimal n) ≤ 20
number_length n fits = length-decimal-le 20 n (omega arith) (omega (arith, fits)) fits

-- of a number that has a sign, a `-` has room too
pub size_length : (n : ℕ) → n ≤ 2 ^ 63 → length (decimal n) ≤ 19
size_length n fits = length-decimal-le 19 n (omega arith) (omega (arith, fits)) (omega (arith, fits))
