use Rattle.std.proofs.Common.{◌≡◌, ◌+◌, ◌*◌, ◌≤◌, ℕ, get_or, sym, ap, subst, ◌∙◌, arith}
use Rattle.prl_base.specs.declared.operators.Op.{Op}
use Rattle.prl_base.specs.declared.operators.Op.TheVariants as operators
use Rattle.prl_words.specs.code.Holding.{IsLeading}
use Rattle.prl_words.proofs.Lead.{one_leading, shift_leading, times_within, split_up}
use Rattle.prl_words.proofs.holding.leading_rates.Goals as goal
use Rattle.prl_words.proofs.holding.leading_rates.Goals.{in-Up, in-Shift}

pub overflow_mul-times : goal.overflow_mul-times
overflow_mul-times c =
    let at : operators.Up c.in-Up.k ≡ get_or c.args.ops.now c.loop-i.i (operators.Up c.in-Up.k) =
    subst (λ (o : Op). o ≡ get_or c.args.ops.now c.loop-i.i o) c.in-Up.is c.index-ops-i.is in
    let within : c.loop-i.times * c.in-Up.k ≤ 10000000 =
    (times_within c.args.ops.now c.loop-i.i c.in-Up.k c.loop-i.times (split_up c.args.ops.now c.loop-i.i c.in-Up.k c.loop-i-test.true at)
    c.loop-i.invariant c.requires.0 c.requires.1).0 in
    let same : c.loop-i.times * c.from-times.result ≡ c.loop-i.times * c.in-Up.k = ap (λ (k : ℕ). c.loop-i.times * k) c.from-times.ensures in
    omega (arith, within, same)

pub loop-i-preserved : goal.loop-i-preserved
loop-i-preserved c =
    let ops = c.args.ops.now in
    let i = c.loop-i.i in
    elim c.match-op.branch [
      | in-Up w ↦
          (let at : operators.Up w.in-Up.k ≡ get_or ops i (operators.Up w.in-Up.k) = subst (λ (o : Op). o ≡ get_or ops i o) w.in-Up.is c.index-ops-i.is in
          let times : c.loop-i.times * w.from-times.result ≡ c.loop-i.times * w.in-Up.k = ap (λ (k : ℕ). c.loop-i.times * k) w.from-times.ensures in
          subst (λ (times : ℕ). IsLeading ops (i + 1) times) (sym times ∙ sym w.times-is)
          (one_leading ops i w.in-Up.k c.loop-i.times c.loop-i-test.true at c.requires.0 c.requires.1 c.loop-i.invariant))
      | in-Shift w ↦
          (let at : operators.Shift w.in-Shift.field-0 ≡ get_or ops i (operators.Shift w.in-Shift.field-0) = subst (λ (o : Op). o ≡ get_or ops i o) w.in-Shift.is c.index-ops-i.is in
          subst (λ (times : ℕ). IsLeading ops (i + 1) times) (sym w.times-is)
          (shift_leading ops i w.in-Shift.field-0 c.loop-i.times c.loop-i-test.true at c.loop-i.invariant))
    ]
