use Rattle.prl_base.proofs.Standard.{◌≡◌, ◌*◌, ◌/◌, ◌≤◌, ℕ, sym, ap, subst, ◌∙◌, arith, IsGcd}
use Rattle.prl_base.specs.declared.operators.Op.{Op}
use Rattle.prl_base.specs.declared.operators.Op.TheVariants as operators
use Rattle.prl_plan.specs.Ranges.{HasFactor}
use Rattle.prl_dates.specs.code.Turns.{IsTurnUnder}
use Rattle.prl_dates.proofs.TurnSteps.{divisor_some, under_up, under_down}
use Rattle.prl_dates.proofs.turns.turn_under.Goals as goal

-- the common divisor of a factor is some
common_some : (op : Op) (k from g higher : ℕ) → op ≡ operators.Up k → HasFactor op → from ≡ k → IsGcd from higher g → 1 ≤ g
common_some op k from g higher is has same gcd = divisor_some from higher g (omega (arith, subst (λ (o : Op). HasFactor o) is has, same)) gcd

pub nonzero_div-from : goal.nonzero_div-from
nonzero_div-from c =
    omega (arith, common_some _ _ _ _ c.args.turn.higher c.in-Up.is c.requires c.from.ensures c.gcd-common.ensures)

pub nonzero_div-result : goal.nonzero_div-result
nonzero_div-result c =
    omega (arith, common_some _ _ _ _ c.args.turn.higher c.in-Up.is c.requires c.from.ensures c.gcd-common.ensures)

pub returns-in_ok-checked_mul-in-Up : goal.returns-in_ok-checked_mul-in-Up
returns-in_ok-checked_mul-in-Up c =
    let k = c.in-Up.k in
    let g = c.gcd-common.result in
    let gcd : IsGcd k c.args.turn.higher g = subst (λ (x : ℕ). IsGcd x c.args.turn.higher g) c.from.ensures c.gcd-common.ensures in
    let factor : c.from-in-Up.result / g ≡ k / g = ap (λ (x : ℕ). x / g) c.from-in-Up.ensures in
    let more : c.in_ok-checked_mul-in-Up.field-0 ≡ c.args.turn.jobs * (k / g) = c.in_ok-checked_mul-in-Up.ensures.1 ∙ ap (λ (x : ℕ). c.args.turn.jobs * x) factor in
    subst (λ (o : Op). IsTurnUnder o c.args.turn (record { jobs = c.in_ok-checked_mul-in-Up.field-0; higher = c.args.turn.higher / g })) (sym c.in-Up.is)
    (under_up k g c.args.turn.jobs c.args.turn.higher (subst (λ (o : Op). HasFactor o) c.in-Up.is c.requires) gcd c.in_ok-checked_mul-in-Up.field-0 more)

pub returns-in_ok-checked_mul-in-Down : goal.returns-in_ok-checked_mul-in-Down
returns-in_ok-checked_mul-in-Down c =
    let product : c.in_ok-checked_mul-in-Down.field-0 ≡ c.args.turn.higher * c.from-in-Down.result = c.in_ok-checked_mul-in-Down.ensures.1 in
    let more : c.in_ok-checked_mul-in-Down.field-0 ≡ c.args.turn.higher * c.in-Down.k = product ∙ ap (λ (x : ℕ). c.args.turn.higher * x) c.from-in-Down.ensures in
    subst (λ (o : Op). IsTurnUnder o c.args.turn (record { jobs = c.args.turn.jobs; higher = c.in_ok-checked_mul-in-Down.field-0 })) (sym c.in-Down.is)
    (under_down c.in-Down.k c.args.turn.jobs c.args.turn.higher c.in_ok-checked_mul-in-Down.field-0 more)
