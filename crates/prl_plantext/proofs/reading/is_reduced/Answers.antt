use Rattle.prl_base.proofs.Standard.{◌==◌, ℕ, ap, subst, IsGcd, eqb-true}
use Rattle.prl_plantext.proofs.Divisors.{same_divisor}
use Rattle.prl_plantext.proofs.reading.is_reduced.Goals as goal

pub returns-clause-by_division : goal.returns-clause-by_division
returns-clause-by_division c = ap (λ (g : ℕ). g == 1) (same_divisor c.args.a c.args.b c.gcd.result c.gcd.ensures)

pub returns-clause-reduced : goal.returns-clause-reduced
returns-clause-reduced c = λ one. let P : ℕ → Type 0 = λ g. IsGcd c.args.a c.args.b g in subst P (eqb-true c.gcd.result 1 one) c.gcd.ensures
