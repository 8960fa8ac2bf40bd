use Rattle.prl_base.proofs.Standard.{◌≡◌, ◌+◌, ℕ, List, length, sym, ◌∙◌, ap, arith, inl, inr, slice_index, cases_lt, length_push}
use Rattle.prl_plan.specs.Words.{number_at}
use Rattle.prl_words.specs.code.Steps.{number_before}
use Rattle.prl_words.proofs.Pushed.{index_left, index_last}
use Rattle.prl_words.proofs.steps.numbers.Goals as goal

pub loop-k-preserved : goal.loop-k-preserved
loop-k-preserved c =
    let k : ℕ = c.loop-k.k in
    let op = c.args.op.now in
    let w = c.args.word.now in
    let from : ℕ = c.args.from in
    let old : List ℕ = c.loop-k.numbers.items in
    let number : ℕ = c.instance_before.result in
    let items = c.in_ok-push.ensures.items in
    let long = c.loop-k.invariant.long in
    record {
      long = ap length items ∙ length_push old number ∙ ap (λ (n : ℕ). n + 1) long;
      each = λ j below. ap (λ (xs : List ℕ). slice_index xs j) items ∙ elim (cases_lt j k) [
        | inl before ↦ index_left old _ j (omega (arith, before, long)) ∙ c.loop-k.invariant.each j before
        | inr now ↦
            (let at : j ≡ c.loop-k.k = omega (arith, now, below) in
            index_last old number j (omega (arith, at, long)) ∙ c.instance_before.ensures
            ∙ ap (number_before op) (c.number.ensures ∙ ap (λ (n : ℕ). number_at w (from + n)) (sym at)))
      ];
    }
