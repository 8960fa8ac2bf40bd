use Rattle.std.proofs.Common.{◌≡◌, take, ◌∙◌, subst, List, ℕ, rules}
use Rattle.prl_plan.specs.Repeats.{IsLeastRepeat}
use Rattle.prl_buffers.proofs.Cuts.{cut_is}
use Rattle.prl_buffers.proofs.edges.shortened.Goals as goal

pub returns : goal.returns
returns c =
    let items : c.truncate.new.self.items ≡ take c.shortest_repeat-step.result c.args.gaps = (let i = c.into_vec-items.ensures.items in let t = c.truncate.ensures.items in search rules) in
    cut_is c.args.gaps c.new.result c.shortest_repeat-step.result (subst (λ (l : List ℕ). IsLeastRepeat l c.shortest_repeat-step.result) c.as_slice.ensures c.shortest_repeat-step.ensures) (c.new.ensures ∙ items)
