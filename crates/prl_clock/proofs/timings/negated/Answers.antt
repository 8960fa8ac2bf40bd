use Rattle.std.proofs.Common.{rules, arith, ap, ◌∙◌, neg_ℤ}
use Rattle.prl_base.specs.Ratios.{Fraction}
use Rattle.prl_clock.proofs.Negation.{neg-passed, small_negated}
use Rattle.prl_clock.proofs.timings.negated.Goals as goal

pub invariant_of-result : goal.invariant_of-result
invariant_of-result c = small_negated (record { num = c.ratio.inside.num; den = c.ratio.inside.den }) (search rules) c.ratio.invariant

pub returns-clause-num : goal.returns-clause-num
returns-clause-num c =
    neg-passed c.ratio.inside.num (search rules) (omega (arith, c.ratio.invariant.num)) ∙ ap (λ (f : Fraction). neg_ℤ f.num) c.ratio.view_is
