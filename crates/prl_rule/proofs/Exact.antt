-- Halves give their value back, and words their tags and halves.
use Rattle.prl_base.proofs.Standard.{◌≡◌, ℕ, zero, suc, ◌+◌, ◌*◌, ◌/◌, ◌%◌, ◌^◌, ◌<◌, ℤ, refl, sym, ap, ◌∙◌, arith, true, false, FitsSigned, w64, Fits-of_z, sfits_to_z, Fits-of_lt, mod-lt, to_z-of_z}
use Rattle.prl_base.proofs.Standard.{of_z-to_z, div-add-mod', cast_signed, cast_unsigned}
use Rattle.prl_base.specs.Values.{type_of, FitsValue, IsOfType}
use Rattle.prl_base.specs.declared.values.Ty.{Ty}
use Rattle.prl_base.specs.declared.values.Value.{Value}
use Rattle.prl_base.specs.declared.values.Ty.TheVariants as types
use Rattle.prl_base.specs.declared.values.Value.TheVariants as values
use Rattle.prl_rule.specs.Halves.{AreHalves, high_half, low_half, tagged, value_of_halves}

pub unpacked : (tag half : ℕ) → half < 2 ^ 32 → (tagged tag half / 2 ^ 32 ≡ tag) × (tagged tag half % 2 ^ 32 ≡ half)
unpacked tag half small = (omega (arith, small), omega (arith, small))

pub packed : (word : ℕ) → tagged (word / 2 ^ 32) (word % 2 ^ 32) ≡ word
packed word = div-add-mod' word (2 ^ 32)

-- the two halves of 64 bits make them up
joined : (bits : ℕ) → bits < 2 ^ 64 → bits / 2 ^ 32 % 2 ^ 32 * 2 ^ 32 + bits % 2 ^ 32 ≡ bits
joined bits small = omega (arith, small)

unsigned_fits : (number : ℤ) → FitsSigned w64 number → cast_unsigned w64 number < 2 ^ 64
unsigned_fits number fits = (Fits-of_z {w = w64} {z = number} fits).fits

pub are_halves : (value : Value) → FitsValue value → AreHalves (type_of value) (low_half value) (high_half value)
are_halves (values.Int number) fits = (mod-lt (cast_unsigned w64 number) (omega arith), mod-lt (cast_unsigned w64 number / 2 ^ 32) (omega arith))
are_halves (values.Bool true) fits = (omega arith, refl)
are_halves (values.Bool false) fits = (omega arith, refl)

pub whole_again : (value : Value) → FitsValue value → value_of_halves (type_of value) (low_half value) (high_half value) ≡ value
whole_again (values.Int number) fits =
    ap (λ (bits : ℕ). values.Int (cast_signed w64 bits)) (joined (cast_unsigned w64 number) (unsigned_fits number fits))
    ∙ ap (λ (z : ℤ). values.Int z) (to_z-of_z w64 number fits)
whole_again (values.Bool true) fits = refl
whole_again (values.Bool false) fits = refl

pub halves_again : (ty : Ty) (low high : ℕ) → AreHalves ty low high →
    IsOfType ty (value_of_halves ty low high) × (low_half (value_of_halves ty low high) ≡ low) × (high_half (value_of_halves ty low high) ≡ high)
halves_again types.Int low high are =
    let low_small = are.0 in let high_small = are.1 in
    let small : high * 2 ^ 32 + low < 2 ^ 64 = omega (arith, low_small, high_small) in
    let bits : cast_unsigned w64 (cast_signed w64 (high * 2 ^ 32 + low)) ≡ high * 2 ^ 32 + low = of_z-to_z w64 (high * 2 ^ 32 + low) small in (
      (refl, sfits_to_z {w = w64} {n = high * 2 ^ 32 + low} (Fits-of_lt small)),
      ap (λ (b : ℕ). b % 2 ^ 32) bits ∙ omega (arith, low_small),
      ap (λ (b : ℕ). b / 2 ^ 32 % 2 ^ 32) bits ∙ omega (arith, low_small, high_small),
    )
halves_again types.Bool zero high are = ((refl, tt), refl, sym are.1)
halves_again types.Bool (suc zero) high are = ((refl, tt), refl, sym are.1)
halves_again types.Bool (suc (suc low)) high are = absurd (let small = are.0 in omega (arith, small))
