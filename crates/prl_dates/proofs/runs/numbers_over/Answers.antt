use Rattle.prl_base.proofs.Standard.{◌≡◌, ◌+◌, ◌<◌, ◌≤◌, ◌++◌, w64, to_z, of_z, ℕ, List, [], ◌∷◌, length, get_or, inl, inr, sym, ap, subst, ◌∙◌, arith, ℤ, pos, ◌+ℤ◌, FitsSigned, cases_lt}
use Rattle.prl_base.proofs.Standard.{to_z-of_z, get_or_append_left, get_or_push, length_push}
use Rattle.prl_plan.specs.Vocabulary.{preceding, Fits64}
use Rattle.prl_dates.proofs.TurnSteps.{first_fits, next_sum}
use Rattle.prl_dates.proofs.runs.numbers_over.Goals.{After-index-before}
use Rattle.prl_dates.proofs.runs.numbers_over.Goals as goal

sum_is : (c : After-index-before) → to_z w64 (of_z w64 c.index-before.result.now) +ℤ to_z w64 c.turn_within-turn.result.higher ≡ preceding c.args.ops.now (pos c.loop-n.n)
sum_is c =
    let turn = c.turn_within-turn.result in
    let n = c.loop-n.n in
    let past : turn.jobs ≤ n = omega arith in
    let below : n < c.args.jobs = omega arith in
    next_sum c.args.ops.now c.args.jobs n c.requires.fits c.requires.few below turn c.turn_within-turn.ensures.some past c.turn_within-turn.ensures.small
    (c.turn_within-turn.ensures.steps (omega (arith, past, below))) c.loop-n.numbers.items c.loop-n.invariant.long c.loop-n.invariant.each c.index-before.result.now c.index-before.ensures

pub overflow_add-before : goal.overflow_add-before
overflow_add-before c = subst (λ (z : ℤ). FitsSigned w64 z) (sym (sum_is (goal.at.overflow_add-before c).After-index-before))
    (first_fits c.args.ops.now c.args.jobs c.loop-n.n c.requires.fits c.requires.few (omega arith))

pub loop-n-preserved : goal.loop-n-preserved
loop-n-preserved c =
    let n = c.loop-n.n in
    let ops = c.args.ops.now in
    let numbers = c.loop-n.numbers.items in
    let computed : ℤ = to_z w64 (of_z w64 c.index-before.result.now) +ℤ to_z w64 c.turn_within-turn.result.higher in
    let sum : computed ≡ preceding ops (pos n) = sum_is (goal.at.loop-n-preserved c).After-index-before in
    let pushed : to_z w64 (of_z w64 computed) ≡ preceding ops (pos n) =
    to_z-of_z w64 computed (subst (λ (z : ℤ). Fits64 z) (sym sum) (first_fits ops c.args.jobs n c.requires.fits c.requires.few (omega arith))) ∙ sum in
    let items : c.push.new.self.items ≡ numbers ++ to_z w64 (of_z w64 computed) ∷ [] = c.in_ok-push.ensures.items in
    record {
      long = ap (λ (xs : List ℤ). length xs) items ∙ length_push numbers (to_z w64 (of_z w64 computed)) ∙ ap (λ (k : ℕ). k + 1) c.loop-n.invariant.long;
      each = λ k inside_k. ap (λ (xs : List ℤ). get_or xs k (pos 0)) items ∙ elim (cases_lt k n) [
        | inl less ↦ (let l = c.loop-n.invariant.long in get_or_append_left numbers (to_z w64 (of_z w64 computed) ∷ []) (pos 0) k (omega (arith, less, l))) ∙ c.loop-n.invariant.each k less
        | inr now ↦
            (let same : k ≡ n = omega (arith, now, inside_k) in
            get_or_push numbers (to_z w64 (of_z w64 computed)) (pos 0) k (omega (arith, same, c.loop-n.invariant.long))
            ∙ pushed ∙ ap (λ (k : ℕ). preceding ops (pos k)) (sym same))
      ];
    }
