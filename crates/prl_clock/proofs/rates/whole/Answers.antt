use Rattle.prl_base.proofs.Standard.{ℤ, rules, w64, ◌∙◌, sym, subst, to_z-of_z}
use mir.Val.{SFits}
use Rattle.prl_base.specs.Ratios.{IsSmallFraction}
use Rattle.prl_clock.proofs.Rated.{whole_small}
use Rattle.prl_clock.proofs.rates.whole.Goals as goal

pub invariant_of-result : goal.invariant_of-result
invariant_of-result c =
    let fits : SFits w64 c.from.result = search rules in
    let P : ℤ → Type 0 = λ z. IsSmallFraction (record { num = z; den = 1 }) in
    subst P (sym (to_z-of_z w64 c.from.result fits ∙ c.from.ensures)) (whole_small c.args.number c.requires)
