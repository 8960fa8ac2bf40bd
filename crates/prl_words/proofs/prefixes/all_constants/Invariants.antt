use Rattle.prl_base.proofs.Standard.{◌≡◌, ◌≤◌, ◌*◌, take, sum_by}
use Rattle.prl_plan.specs.FirstReaders.{first_reader}
use Rattle.prl_plan.specs.declared.graphs.Edge.{Edge}
use Rattle.prl_words.proofs.prefixes.all_constants.Given as goal

abbrev pub invariant-loop-edge : goal.invariant-loop-edge
invariant-loop-edge l =
    (l.count ≡ sum_by (λ (edge : Edge). first_reader edge.ops) (take l.edge-index l.graph.edges)) × (l.count ≤ l.edge-index * 100000000000000)
