use Rattle.prl_base.proofs.Standard.{◌≡◌, ◌+◌, ◌-◌, ℕ, List, length, ◌∙◌, ap, arith, inl, inr, slice_index, cases_lt, length_push}
use Rattle.prl_plan.specs.Words.{number_at}
use Rattle.prl_words.proofs.Pushed.{index_left, index_last}
use Rattle.prl_words.proofs.shortening.gaps.Goals as goal

pub overflow_sub-number : goal.overflow_sub-number
overflow_sub-number c =
    let up = c.requires.rises c.loop-i.i (c.loop-i.i + 1) (omega arith) in
    let a = c.number.ensures in
    let b = c.number-in-loop-i.ensures in
    omega (arith, up, a, b)

pub loop-i-preserved : goal.loop-i-preserved
loop-i-preserved c =
    let w = c.args.word.now in
    let i : ℕ = c.loop-i.i in
    let old : List ℕ = c.loop-i.gaps.items in
    let gap : ℕ = c.number.result - c.number-in-loop-i.result in
    let items = c.in_ok-push.ensures.items in
    let long = c.loop-i.invariant.long in
    record {
      long = ap length items ∙ length_push old gap ∙ ap (λ (n : ℕ). n + 1) long;
      each = λ k below. elim (cases_lt k c.loop-i.i) [
        | inl before ↦
            (let e : slice_index c.push.new.self.items k ≡ slice_index c.loop-i.gaps.items k =
            ap (λ (xs : List ℕ). slice_index xs k) items ∙ index_left old _ k (omega (arith, before, long)) in
            let h = c.loop-i.invariant.each k before in
            omega (arith, e, h))
        | inr now ↦
            (let at : k ≡ c.loop-i.i = omega (arith, now, below) in
            let e : slice_index c.push.new.self.items k ≡ c.number.result - c.number-in-loop-i.result =
            ap (λ (xs : List ℕ). slice_index xs k) items ∙ index_last old gap k (omega (arith, at, long)) in
            let up = c.requires.rises c.loop-i.i (c.loop-i.i + 1) (omega arith) in
            let a = c.number.ensures in
            let b = c.number-in-loop-i.ensures in
            let x : number_at c.args.word.now (k + 1) ≡ number_at c.args.word.now (c.loop-i.i + 1) = ap (λ (n : ℕ). number_at c.args.word.now (n + 1)) at in
            let y : number_at c.args.word.now k ≡ number_at c.args.word.now c.loop-i.i = ap (λ (n : ℕ). number_at c.args.word.now n) at in
            omega (arith, e, up, a, b, x, y))
      ];
    }
