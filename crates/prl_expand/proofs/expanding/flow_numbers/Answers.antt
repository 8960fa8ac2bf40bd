use Rattle.prl_base.proofs.Standard.{◌≡◌, ◌+◌, [], ◌∷◌, ◌++◌, ◌∙◌, ap, arith, sym, map-range_with_len_more}
use Rattle.prl_expand.specs.Flats.{flow_no}
use Rattle.prl_expand.proofs.expanding.flow_numbers.Goals as goal

pub loop-k-preserved : goal.loop-k-preserved
loop-k-preserved c =
    let here : 0 + c.loop-k.k ≡ c.loop-k.k = omega arith in
    c.in_ok-push.ensures.items ∙ ap (λ xs. xs ++ flow_no c.loop-k.k ∷ []) c.loop-k.invariant ∙ sym (map-range_with_len_more flow_no 0 c.loop-k.k c.loop-k.k here)
