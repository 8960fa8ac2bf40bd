use Rattle.prl_base.proofs.Standard.{rules, ◌≤◌, w64, arith, to_z_pos}
use Rattle.prl_base.specs.declared.ratios.TheConstants.{MAX_PART}
use Rattle.prl_plantext.proofs.reading.ratio_or_none.Goals as goal

pub invariant_of-t-3 : goal.invariant_of-t-3
invariant_of-t-3 c =
    let num : c.args.num ≤ MAX_PART = search rules in
    let den : c.args.den ≤ MAX_PART = search rules in
    rw (to_z_pos w64 c.args.num (omega (arith, num)))
    (record { positive = search rules; reduced = c.is_reduced.ensures.reduced c.if-is_reduced.true; num = num; den = den })
