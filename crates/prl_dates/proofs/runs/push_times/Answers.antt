use Rattle.std.proofs.Common.{◌≡◌, ◌+◌, ◌++◌, ◌∷◌, [], ℕ, List, replicate, ap, sym, ◌∙◌}
use Rattle.std.proofs.lemmas.List.{append-nil, append_assoc, replicate_more}
use Rattle.prl_dates.proofs.runs.push_times.Goals as goal

-- one time more
once_more : {A : Type 0} (old before new : List A) (k : ℕ) (x : A) → before ≡ old ++ replicate k x → new ≡ before ++ x ∷ [] → new ≡ old ++ replicate (k + 1) x
once_more {A} old before new k x times is =
    is ∙ ap (λ (xs : List A). xs ++ x ∷ []) times ∙ append_assoc old (replicate k x) (x ∷ []) ∙ ap (λ (xs : List A). old ++ xs) (replicate_more k x)

pub loop-init : goal.loop-init
loop-init g c = sym (append-nil c.args.table.now.items)

pub loop-preserved : goal.loop-preserved
loop-preserved g c =
    once_more c.args.table.now.items c.loop.table.items c.push.new.self.items c.loop.counter c.args.value c.loop.invariant c.in_ok-push.ensures.items
