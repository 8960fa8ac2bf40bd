use Rattle.prl_base.proofs.Standard.{◌≡◌, ◌/◌, ◌<◌, ◌^◌, ℕ, ℤ, pos, w64, sym, ap, ◌∙◌, subst, arith, div-le_self, to_z_pos}
use mir.Val.{to_z}
use Rattle.prl_base.specs.Ratios.{Fraction, IsSmallFraction}
use Rattle.prl_syntax.proofs.Ratios.{divisor_is, positive_divisor, reduced_fits}
use Rattle.prl_syntax.proofs.values.reduced.Goals as goal

abbrev fraction : ℤ → ℕ → Fraction
fraction num den = record { num = num; den = den }

same_number : (num g : ℕ) → num < 2 ^ 31 → to_z w64 (num / g) ≡ pos (num / g)
same_number num g below = to_z_pos w64 (num / g) (omega (arith, div-le_self num g))

pub nonzero_div-result : goal.nonzero_div-result
nonzero_div-result c = positive_divisor c.args.num c.args.den c.gcd-divisor.result c.gcd-divisor.ensures c.requires.positive

pub nonzero_div-result-2 : goal.nonzero_div-result-2
nonzero_div-result-2 c = positive_divisor c.args.num c.args.den c.gcd-divisor.result c.gcd-divisor.ensures c.requires.positive

pub invariant_of-result : goal.invariant_of-result
invariant_of-result c =
    let g = c.gcd-divisor.result in
    let above = positive_divisor c.args.num c.args.den g c.gcd-divisor.ensures c.requires.positive in
    let P : ℤ → Type 0 = λ n. IsSmallFraction (fraction n (c.args.den / g)) in
    subst P (sym (same_number c.args.num g (omega (arith, c.requires.num))))
    (reduced_fits c.args.num c.args.den g c.gcd-divisor.ensures above c.requires.num c.requires.positive c.requires.den)

pub returns : goal.returns
returns c =
    let g = c.gcd-divisor.result in
    let same = divisor_is c.args.num c.args.den g c.gcd-divisor.ensures c.requires.positive in
    ap (λ n. fraction n (c.args.den / g)) (same_number c.args.num g (omega (arith, c.requires.num)))
    ∙ ap (λ k. fraction (pos (c.args.num / k)) (c.args.den / k)) (sym same)
