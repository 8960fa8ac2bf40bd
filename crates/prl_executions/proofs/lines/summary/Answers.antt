use Rattle.prl_base.proofs.Standard.{◌∙◌, [], ◌∷◌, List, ap, sym, codes, length, rules, to_z-of_z, signed_decimal, w128}
use mir.Val.{SFits}
use Rattle.prl_plan.specs.declared.graphs.TaskGraph.{TaskGraph}
use Rattle.prl_executions.proofs.Pieces.{after_numbers, Named, numbered_pieces}
use Rattle.prl_executions.proofs.lines.summary.Goals as goal

pub returns : goal.returns
returns c =
    let same = c.graph-graph.ensures.graph in
    let size = sym c.from.ensures in
    let tasks = sym (c.len.ensures ∙ ap (λ (g : TaskGraph). length g.tasks) same) in
    let edges = sym (c.len-2.ensures ∙ ap (λ (g : TaskGraph). length g.edges) same) in
    let fits : SFits w128 c.args.sum = search rules in
    let spelled = c.as_bytes.ensures.value ∙ c.format.ensures.text ∙ ap signed_decimal (to_z-of_z w128 c.args.sum fits) in
    let sum = signed_decimal c.args.sum in
    let all : List Named =
    (codes "seed ", c.args.seed) ∷ (codes " size ", c.from.result) ∷ (codes " tasks ", c.len.result) ∷ (codes " edges ", c.len-2.result) ∷ (codes " jobs ", c.args.jobs)
    ∷ (codes " reads ", c.args.reads) ∷ [] in
    rw (size, tasks, edges)
    (after_numbers _ _ _ _ (codes " sum ") sum (codes "\n") c.in_ok-text.ensures c.in_ok-extend_from_slice.ensures.items
    (rw spelled at c.in_ok-extend_from_slice-2.ensures.items) c.in_ok-push.ensures.items
    ∙ numbered_pieces all (codes " sum " ∷ sum ∷ codes "\n" ∷ []))
