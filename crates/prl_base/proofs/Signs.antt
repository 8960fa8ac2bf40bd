-- Products of signed numbers.
use Rattle.std.proofs.Common.{◌≡◌, ◌≢◌, ◌*◌, ◌<◌, ℕ, ℤ, pos, negsuc, neg_ℤ, nat_abs, ◌*ℤ◌, ◌-ℤ◌, ◌^◌, w64, rules, Bool, true, false, zero, suc, refl, sym, ap, ◌∙◌, arith, mul-zero}
use Rattle.std.proofs.Math.IntN.{neg_ℤ-neg_ℤ, *ℤ_comm, +ℤ_idl}
use mir.Val.{SFits}
use Rattle.std.specs.Int.Signed.{lt_z}
use Rattle.std.proofs.lemmas.Int.{fits_signed_from_abs}
use Rattle.std.proofs.Math.Nat.{eq_of_mul-eq-mul_right, mul-pos}
use Rattle.prl_base.specs.Reductions.{signed}

pub nat_abs_signed : (negative : Bool) (size : ℕ) → nat_abs (signed negative size) ≡ size
nat_abs_signed true zero = refl
nat_abs_signed true (suc size) = refl
nat_abs_signed false size = refl

pub neg_injective : (x y : ℤ) → neg_ℤ x ≡ neg_ℤ y → x ≡ y
neg_injective x y e = sym (neg_ℤ-neg_ℤ x) ∙ ap neg_ℤ e ∙ neg_ℤ-neg_ℤ y

pos_injective : (m n : ℕ) → pos m ≡ pos n → m ≡ n
pos_injective m n e = cc

-- a negative number is not positive
apart : (m n : ℕ) → 0 < n → pos m ≡ neg_ℤ (pos n) → ⊥
apart m zero some e = omega arith
apart m (suc n) some e = cc

apart' : (m n : ℕ) → 0 < n → pos n ≡ neg_ℤ (pos m) → ⊥
apart' zero n some e = let h : n ≡ 0 = pos_injective n 0 e in omega arith
apart' (suc m) n some e = cc

pub mul_neg : (x y : ℤ) → x *ℤ neg_ℤ y ≡ neg_ℤ (x *ℤ y)
mul_neg (pos m) (pos zero) = rw mul-zero
mul_neg (pos m) (pos (suc n)) = refl
mul_neg (pos m) (negsuc n) = sym (neg_ℤ-neg_ℤ (pos (m * suc n)))
mul_neg (negsuc m) (pos zero) = rw mul-zero
mul_neg (negsuc m) (pos (suc n)) = sym (neg_ℤ-neg_ℤ (pos (suc m * suc n)))
mul_neg (negsuc m) (negsuc n) = refl

pub neg_mul : (x y : ℤ) → neg_ℤ x *ℤ y ≡ neg_ℤ (x *ℤ y)
neg_mul x y = *ℤ_comm (neg_ℤ x) y ∙ mul_neg y x ∙ ap neg_ℤ (*ℤ_comm y x)

pub cancel : (x y b : ℤ) → b ≢ pos 0 → x *ℤ b ≡ y *ℤ b → x ≡ y
cancel x y (pos zero) nonzero e = absurd (nonzero refl)
cancel (pos m) (pos n) (pos (suc k)) nonzero e =
    ap pos (eq_of_mul-eq-mul_right (suc k) (omega arith) m n (pos_injective (m * suc k) (n * suc k) e))
cancel (negsuc m) (negsuc n) (pos (suc k)) nonzero e =
    let h : pos (suc m * suc k) ≡ pos (suc n * suc k) = neg_injective (pos (suc m * suc k)) (pos (suc n * suc k)) e in
    let same : suc m ≡ suc n = eq_of_mul-eq-mul_right (suc k) (omega arith) (suc m) (suc n) (pos_injective (suc m * suc k) (suc n * suc k) h) in
    ap negsuc (omega arith)
cancel (pos m) (negsuc n) (pos (suc k)) nonzero e =
    absurd (apart (m * suc k) (suc n * suc k) (mul-pos (omega arith) (omega arith)) e)
cancel (negsuc m) (pos n) (pos (suc k)) nonzero e =
    absurd (apart (n * suc k) (suc m * suc k) (mul-pos (omega arith) (omega arith)) (sym e))
cancel (pos m) (pos n) (negsuc k) nonzero e =
    let h : pos (m * suc k) ≡ pos (n * suc k) = neg_injective (pos (m * suc k)) (pos (n * suc k)) e in
    ap pos (eq_of_mul-eq-mul_right (suc k) (omega arith) m n (pos_injective (m * suc k) (n * suc k) h))
cancel (negsuc m) (negsuc n) (negsuc k) nonzero e =
    let same : suc m ≡ suc n = eq_of_mul-eq-mul_right (suc k) (omega arith) (suc m) (suc n) (pos_injective (suc m * suc k) (suc n * suc k) e) in
    ap negsuc (omega arith)
cancel (pos m) (negsuc n) (negsuc k) nonzero e =
    absurd (apart' (m * suc k) (suc n * suc k) (mul-pos (omega arith) (omega arith)) (sym e))
cancel (negsuc m) (pos n) (negsuc k) nonzero e =
    absurd (apart' (n * suc k) (suc m * suc k) (mul-pos (omega arith) (omega arith)) e)

pub neg_fits : (z : ℤ) → nat_abs z < 2 ^ 62 → SFits w64 (neg_ℤ z)
neg_fits (pos zero) small = fits_signed_from_abs w64 (pos zero) (omega arith)
neg_fits (pos (suc n)) small = fits_signed_from_abs w64 (negsuc n) (omega arith)
neg_fits (negsuc n) small = fits_signed_from_abs w64 (pos (suc n)) (omega arith)

pub zero_sub : (z : ℤ) → pos 0 -ℤ z ≡ neg_ℤ z
zero_sub z = +ℤ_idl (neg_ℤ z)

pub negative_size : (z : ℤ) → lt_z z (pos 0) ≡ true → pos (nat_abs z) ≡ neg_ℤ z
negative_size (pos n) negative = search rules
negative_size (negsuc n) negative = refl
