use Rattle.prl_base.proofs.Standard.{◌++◌, [], ◌∷◌, replicate, ◌∙◌, ap, append_assoc, List, replicate_more}
use Rattle.prl_base.specs.declared.values.Value.{Value}
use Rattle.prl_words.proofs.steps.followed_by.Goals as goal

pub loop-preserved : goal.loop-preserved
loop-preserved c =
    let prefix = c.args.prefix in
    let k = c.loop.counter in
    c.in_ok-push.ensures.items ∙ ap (λ (xs : List Value). xs ++ c.args.c ∷ []) c.loop.invariant
    ∙ append_assoc prefix (replicate k c.args.c) (c.args.c ∷ []) ∙ ap (λ (xs : List Value). prefix ++ xs) (replicate_more k c.args.c)
