use Rattle.prl_base.proofs.Standard.{inl, inr, rules, w64, ◌∙◌, arith, to_z-of_z}
use mir.Val.{to_z, of_z, SFits}
use Rattle.prl_base.proofs.Lowest.{divisor_positive}
use Rattle.prl_clock.proofs.Reducing.{reduced_past, reduced_form, reduced_small}
use Rattle.prl_clock.proofs.fractions.reduced.Goals as goal
use Rattle.prl_clock.proofs.fractions.reduced.Goals.{then-top-via-then-top, then-top-via-else-top+then-bottom}

pub nonzero_div-top : goal.nonzero_div-top
nonzero_div-top c = divisor_positive _ _ _ c.requires c.wide_gcd-divisor.ensures

pub nonzero_div-bottom : goal.nonzero_div-bottom
nonzero_div-bottom c = divisor_positive _ _ _ c.requires c.wide_gcd-divisor.ensures

pub returns-then-top : goal.returns-then-top
returns-then-top c =
    reduced_past c.args.negative c.args.size c.args.den c.wide_gcd-divisor.result c.requires c.wide_gcd-divisor.ensures
    (elim c.then-top.branch [ then-top-via-then-top w ↦ inl w.if-top.true | then-top-via-else-top+then-bottom w ↦ inr w.if-bottom.true ])

pub invariant_of-result : goal.invariant_of-result
invariant_of-result c =
    let fits : SFits w64 c.with_sign.result = search rules in
    reduced_small c.args.negative c.args.size c.args.den c.wide_gcd-divisor.result (to_z w64 (of_z w64 c.with_sign.result)) c.requires c.wide_gcd-divisor.ensures
    (to_z-of_z w64 c.with_sign.result fits ∙ c.with_sign.ensures) (omega (arith, c.if-top.false)) (omega (arith, c.if-bottom.false))

pub returns : goal.returns
returns c =
    let fits : SFits w64 c.with_sign.result = search rules in (
      reduced_form c.args.negative c.args.size c.args.den c.wide_gcd-divisor.result (to_z w64 (of_z w64 c.with_sign.result)) c.requires c.wide_gcd-divisor.ensures
          (to_z-of_z w64 c.with_sign.result fits ∙ c.with_sign.ensures),
      invariant_of-result c,
    )
