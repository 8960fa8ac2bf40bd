use Rattle.prl_base.proofs.Standard.{◌∷◌, ◌++◌, ◌∙◌, ℕ, List, ap, codes}
use Rattle.json.specs.Token.{Token, key}
use Rattle.prl_plan.specs.declared.graphs.TaskGraph.{TaskGraph}
use Rattle.prl_frametext.specs.Objects.{array_tokens, count}
use Rattle.prl_frametext.proofs.Pieces.{joined}
use Rattle.prl_frametext.proofs.objects.put_members.Goals as goal

pub returns-clause-tokens : goal.returns-clause-tokens
returns-clause-tokens c = joined c.args.w.now.tokens (count (codes "hyperperiod") c.args.plan.now.graph.hyper) (key (codes "slots") ∷ array_tokens c.args.plan.now.graph c.args.slots.now)
    c.put_count.new.w.tokens c.put_list.new.w.tokens
    (c.in_ok-put_count.ensures.tokens ∙ ap (λ (g : TaskGraph). c.args.w.now.tokens ++ count (codes "hyperperiod") g.hyper) c.graph.ensures.graph)
    c.in_ok-put_list.ensures.tokens
