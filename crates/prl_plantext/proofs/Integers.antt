-- Integers of 64 bits.
use Rattle.prl_base.proofs.Standard.{◌≡◌, ℤ, pos, negsuc, true, arith, FitsSigned, le-leb, leb-true, lt-ltb, ltb-true}
use Rattle.std.specs.Int.{w64}
use Rattle.prl_base.specs.declared.decimals.TheConstants.{MAX_NEGATIVE, MAX_POSITIVE}
use Rattle.prl_plantext.specs.code.Checks.{is_integer}

pub integer_is : (z : ℤ) → FitsSigned w64 z → is_integer z ≡ true
integer_is (pos n) fits = let f = fits.sfits in le-leb n MAX_POSITIVE (omega (arith, f))
integer_is (negsuc n) fits = let f = fits.sfits in lt-ltb n MAX_NEGATIVE (omega (arith, f))

pub integer_fits : (z : ℤ) → is_integer z ≡ true → FitsSigned w64 z
integer_fits (pos n) is = let small = leb-true n MAX_POSITIVE is in record { sfits = omega (arith, small) }
integer_fits (negsuc n) is = let small = ltb-true n MAX_NEGATIVE is in record { sfits = omega (arith, small) }
