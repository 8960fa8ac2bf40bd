use Rattle.std.proofs.Common.{◌≡◌, ◌⊎◌, inl, inr, ◌/◌, ◌<◌, ◌≤◌, ℕ, ℤ, pos, nat_abs, rules, w64, ap, ◌∙◌, subst, arith}
use mir.Val.{to_z, of_z, SFits}
use Rattle.std.specs.Int.{IsGcd}
use Rattle.std.specs.Int.Signed.{lt_z}
use Rattle.std.proofs.lemmas.Int.{to_z-of_z}
use Rattle.prl_base.specs.Vocabulary.{signed, MAX_PART}
use Rattle.prl_base.proofs.Lowest.{divisor_positive, lowest_is, lowest_small, lowest_past}
use Rattle.prl_base.proofs.ratios.Ratio.new.Goals as goal

-- a number that was passed on is the same number
size-passed : (num : ℤ) (size : ℕ) → SFits w64 num → size ≡ nat_abs (to_z w64 (of_z w64 num)) → size ≡ nat_abs num
size-passed num size fits e = e ∙ ap nat_abs (to_z-of_z w64 num fits)

gcd-passed : (num : ℤ) (size den g : ℕ) → SFits w64 num → size ≡ nat_abs (to_z w64 (of_z w64 num)) → IsGcd size den g
    → IsGcd (nat_abs num) den g
gcd-passed num size den g fits e gcd =
    let P : ℕ → Type 0 = λ n. IsGcd n den g in subst P (size-passed num size fits e) gcd

num-passed : (num made : ℤ) (size g : ℕ) → SFits w64 num → SFits w64 made → size ≡ nat_abs (to_z w64 (of_z w64 num))
    → made ≡ signed (lt_z (to_z w64 (of_z w64 num)) (pos 0)) (size / g)
    → to_z w64 (of_z w64 made) ≡ signed (lt_z num (pos 0)) (nat_abs num / g)
num-passed num made size g fits made-fits e is =
    to_z-of_z w64 made made-fits ∙ is
    ∙ ap (λ z. signed (lt_z z (pos 0)) (size / g)) (to_z-of_z w64 num fits)
    ∙ ap (λ n. signed (lt_z num (pos 0)) (n / g)) (size-passed num size fits e)

pub nonzero_div-top : goal.nonzero_div-top
nonzero_div-top c = divisor_positive _ _ _ c.requires c.gcd-divisor.ensures

pub nonzero_div-bottom : goal.nonzero_div-bottom
nonzero_div-bottom c = divisor_positive _ _ _ c.requires c.gcd-divisor.ensures

pub returns-then-top-gt-MAX_PART : goal.returns-then-top-gt-MAX_PART
returns-then-top-gt-MAX_PART c =
    let gcd : IsGcd (nat_abs c.args.num) c.args.den c.gcd-divisor.result =
    gcd-passed c.args.num c.size.result c.args.den c.gcd-divisor.result c.ranges.num c.size.ensures c.gcd-divisor.ensures in
    let same : c.size-2.result ≡ nat_abs c.args.num = size-passed c.args.num c.size-2.result c.ranges.num c.size-2.ensures in
    let top : MAX_PART < c.size-2.result / c.gcd-divisor.result → MAX_PART < nat_abs c.args.num / c.gcd-divisor.result =
    λ past. let P : ℕ → Type 0 = λ n. MAX_PART < n / c.gcd-divisor.result in subst P same (omega (arith, past)) in
    let past : (MAX_PART < nat_abs c.args.num / c.gcd-divisor.result) ⊎ (MAX_PART < c.args.den / c.gcd-divisor.result) =
    elim c.then-top-gt-MAX_PART.either [ inl w ↦ inl (top w) | inr w ↦ inr w.1 ] in
    lowest_past c.args.num c.args.den c.gcd-divisor.result c.requires gcd past

pub invariant_of-result : goal.invariant_of-result
invariant_of-result c =
    let made : SFits w64 c.with_sign.result = search rules in
    let gcd : IsGcd (nat_abs c.args.num) c.args.den c.gcd-divisor.result =
    gcd-passed c.args.num c.size.result c.args.den c.gcd-divisor.result c.ranges.num c.size.ensures c.gcd-divisor.ensures in
    let is = num-passed c.args.num c.with_sign.result c.size-2.result c.gcd-divisor.result c.ranges.num made c.size-2.ensures c.with_sign.ensures in
    let same : c.size-2.result ≡ nat_abs c.args.num = size-passed c.args.num c.size-2.result c.ranges.num c.size-2.ensures in
    let top : nat_abs c.args.num / c.gcd-divisor.result ≤ MAX_PART =
    let P : ℕ → Type 0 = λ n. n / c.gcd-divisor.result ≤ MAX_PART in subst P same (omega (arith, c.if-top-gt-MAX_PART.false)) in
    rw is (lowest_small c.args.num c.args.den c.gcd-divisor.result c.requires gcd top (omega (arith, c.if-bottom-gt-MAX_PART.false)))

pub returns : goal.returns
returns c =
    let made : SFits w64 c.with_sign.result = search rules in
    let gcd : IsGcd (nat_abs c.args.num) c.args.den c.gcd-divisor.result =
    gcd-passed c.args.num c.size.result c.args.den c.gcd-divisor.result c.ranges.num c.size.ensures c.gcd-divisor.ensures in
    let is = num-passed c.args.num c.with_sign.result c.size-2.result c.gcd-divisor.result c.ranges.num made c.size-2.ensures c.with_sign.ensures in
    (rw is (lowest_is c.args.num c.args.den c.gcd-divisor.result c.requires gcd), invariant_of-result c)
