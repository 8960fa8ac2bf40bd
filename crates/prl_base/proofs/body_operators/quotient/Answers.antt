use Rattle.prl_base.proofs.Standard.{rules, FitsSigned, w64, of_z, ap, ◌∙◌, to_z-of_z}
use Rattle.prl_base.proofs.Quotients.{quotient_nonzero}
use Rattle.prl_base.proofs.body_operators.quotient.Goals as goal

pub returns-else-b-eq0 : goal.returns-else-b-eq0
returns-else-b-eq0 c =
    let fits : FitsSigned w64 c.wrapping_div.result = search rules in
    let exact = quotient_nonzero c.args.a c.args.b c.ranges.a (λ zero. c.if-b-eq0.false (ap (of_z w64) zero)) in
    rw (to_z-of_z w64 c.wrapping_div.result fits)
    (c.wrapping_div.ensures ∙ rw (to_z-of_z w64 c.args.a c.ranges.a, to_z-of_z w64 c.args.b c.ranges.b) exact)
