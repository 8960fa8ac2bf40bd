use Rattle.prl_base.proofs.Standard.{◌≡◌, ◌+◌, ◌/◌, ◌<◌, ℕ, Some, length, sym, ◌∙◌, ap, arith, inl, inr, slice_get, cases_lt, length_push, slice_get-get_or}
use Rattle.prl_words.proofs.Held.{quotient_below}
use Rattle.prl_words.proofs.Pushed.{get_left, get_last}
use Rattle.prl_words.proofs.holding.spread.Goals as goal

pub loop-n-preserved : goal.loop-n-preserved
loop-n-preserved g c =
    let list = c.args.list.now in
    let longer = c.loop-n.longer.items in
    let x = c.index-list-n.result in
    let items = c.in_ok-push.ensures.items in
    let inside : c.loop-n.n / c.args.times < length c.args.list.now = quotient_below c.loop-n.n (length c.args.list.now) c.args.times c.requires.some (omega (arith, c.loop-n-test.true)) in
    record {
      long = ap length items ∙ length_push longer x ∙ ap (λ (n : ℕ). n + 1) c.loop-n.invariant.long;
      each = λ k below. ap (λ xs. slice_get xs k) items ∙ elim (cases_lt k c.loop-n.n) [
        | inl before ↦ get_left longer _ k (let l = c.loop-n.invariant.long in omega (arith, before, l)) ∙ c.loop-n.invariant.each k before
        | inr now ↦
            (let at : k ≡ c.loop-n.n = omega (arith, now, below) in
            get_last longer x k (let l = c.loop-n.invariant.long in omega (arith, at, l))
            ∙ ap (λ y. Some y) c.index-list-n.is ∙ sym (slice_get-get_or list (c.loop-n.n / c.args.times) x inside)
            ∙ ap (λ (n : ℕ). slice_get list (n / c.args.times)) (sym at))
      ];
    }
