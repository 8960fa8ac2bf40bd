use Rattle.prl_base.proofs.Standard.{◌∙◌, ◌++◌, [], ◌∷◌, ℕ, List, ap, sym, codes, length}
use Rattle.prl_plan.specs.declared.graphs.TaskGraph.{TaskGraph}
use Rattle.prl_executions.proofs.Pieces.{Named, numbered_pieces}
use Rattle.prl_executions.proofs.lines.accepted.Goals as goal

pub returns : goal.returns
returns c =
    let same = c.graph-graph.ensures.graph in
    let tasks = sym (c.len.ensures ∙ ap (λ (g : TaskGraph). length g.tasks) same) in
    let edges = sym (c.len-2.ensures ∙ ap (λ (g : TaskGraph). length g.edges) same) in
    let hyper = sym (ap (λ (g : TaskGraph). g.hyper) same) in
    let cells = sym (c.from.ensures ∙ c.total.ensures) in
    let all : List Named =
    (codes "accepted tasks ", c.len.result) ∷ (codes " edges ", c.len-2.result) ∷ (codes " hyperperiod ", c.graph-graph.result.now.hyper)
    ∷ (codes " cells ", c.from.result) ∷ [] in
    rw (tasks, edges, hyper, cells)
    (c.in_ok-push.ensures.items ∙ ap (λ (t : List ℕ). t ++ codes "\n") c.in_ok-text.ensures
    ∙ numbered_pieces all (codes "\n" ∷ []))
