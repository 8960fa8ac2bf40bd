use Rattle.prl_base.proofs.Standard.{◌∙◌, ◌++◌, ℕ, List, [], ◌∷◌, ap, sym, get_or, take_all, take_more, arith, get_or-le-sum_by}
use Rattle.prl_buffers.proofs.tables.narrowed.Goals as goal

pub loop-count-init : goal.loop-count-init
loop-count-init c = c.in_ok-narrow.ensures.items

pub loop-count-preserved : goal.loop-count-preserved
loop-count-preserved c =
    let counts : List ℕ = c.args.counts.now in
    let i : ℕ = c.loop-count.count-index in
    c.in_ok-push.ensures.items ∙ ap (λ (l : List ℕ). l ++ get_or counts i 0 ∷ []) c.loop-count.invariant ∙ sym (take_more counts i 0 c.loop-count-test.true)

pub returns : goal.returns
returns c = c.new.ensures ∙ c.loop-count.invariant ∙ take_all c.loop-count.count-index c.args.counts.now c.loop-count-test.false

pub overflow_cast-count : goal.overflow_cast-count
overflow_cast-count c = (let small = get_or-le-sum_by (λ (y : ℕ). y) c.args.counts.now c.loop-count.count-index 0 c.loop-count-test.true in omega (arith, small, c.requires))
