use Rattle.prl_base.proofs.Standard.{◌≡◌, ◌/◌, ◌≤◌, ℕ, refl, sym, ap, subst, arith, IsGcd}
use Rattle.prl_base.specs.declared.operators.Op.{Op}
use Rattle.prl_base.specs.declared.operators.Op.TheVariants as operators
use Rattle.prl_words.specs.Vocabulary.{IsCountBefore, IsStep}
use Rattle.prl_words.proofs.Turns.{first_some}
use Rattle.prl_words.proofs.Rooms.{gcd_some}
use Rattle.prl_words.proofs.steps.turns_under.Goals as goal

-- the common divisor of a factor is some
common_some : (op : Op) (k count before from step g : ℕ) → op ≡ operators.Up k → IsCountBefore op count before → 1 ≤ count → from ≡ k → IsGcd from step g → 1 ≤ g
common_some op k count before from step g is counts some same gcd =
    let factor : IsCountBefore (operators.Up k) count before = subst (λ (o : Op). IsCountBefore o count before) is counts in
    gcd_some from step g (omega (arith, first_some k before count factor some, same)) gcd

pub nonzero_div-result : goal.nonzero_div-result
nonzero_div-result c =
    let room = c.requires in
    omega (arith, common_some _ c.in-Up.k room.count room.before _ _ _ c.in-Up.is room.step room.count_fits.0 c.from.ensures c.gcd-common.ensures)

pub nonzero_div-result-in-Up : goal.nonzero_div-result-in-Up
nonzero_div-result-in-Up c =
    let room = c.requires in
    omega (arith, common_some _ c.in-Up.k room.count room.before _ _ _ c.in-Up.is room.step room.count_fits.0 c.from.ensures c.gcd-common.ensures)

pub returns-in-Up : goal.returns-in-Up
returns-in-Up c =
    let out = c.args.word.now.step_out in
    let g = c.gcd-common.result in
    let is_gcd : IsGcd c.in-Up.k out g = subst (λ (k : ℕ). IsGcd k out g) c.from.ensures c.gcd-common.ensures in
    let rounds : c.from-in-Up.result / g ≡ c.in-Up.k / g = ap (λ (k : ℕ). k / g) c.from-in-Up.ensures in
    subst (λ (o : Op). IsStep o out (c.from-in-Up.result / g) (out / g)) (sym c.in-Up.is) (g, is_gcd, rounds, refl)
