use Rattle.prl_base.proofs.Standard.{◌≡◌, ◌<◌, ◌++◌, ℕ, length, [], ◌∷◌, List, take, cond, sym, ap, ◌∙◌, arith, take_more, length-take-le}
use Rattle.prl_plan.specs.declared.graphs.Edge.{Edge}
use Rattle.prl_plan.proofs.UsedLaws.{test_same, test_differs}
use Rattle.prl_values.specs.Fitting.{port_types}
use Rattle.prl_values.proofs.TaskNames.{ports_push, ports_within}
use Rattle.prl_values.proofs.making.ports_of.Goals as goal
use Rattle.prl_values.proofs.making.ports_of.Goals.{then-edge-i, else-edge-i}

pub overflow_add-count : goal.overflow_add-count
overflow_add-count c =
    let l = length-take-le c.loop-edge.edge-index c.args.edges.now c.loop-edge.auto.edge-index-end in
    omega (arith, ports_within (take c.loop-edge.edge-index c.args.edges.now) c.args.i, l, c.loop-edge-test.true, c.loop-edge.invariant, c.requires)

pub loop-edge-preserved : goal.loop-edge-preserved
loop-edge-preserved c =
    let more = take_more c.args.edges.now c.loop-edge.edge-index c.edge-item.result c.loop-edge-test.true in
    let push = ports_push (take c.loop-edge.edge-index c.args.edges.now) c.edge-item.result c.args.i in
    let whole = ap (λ (xs : List Edge). length (port_types xs c.args.i))
    (more ∙ ap (λ (e : Edge). take c.loop-edge.edge-index c.args.edges.now ++ e ∷ []) (sym c.edge-item.is)) in
    elim c.if-edge-i.branch [
      | then-edge-i w ↦
          omega (arith, c.loop-edge.invariant, push, whole, w.count-is, ap {B = ℕ} (λ b. cond b 1 0) (test_same c.edge-item.result.to.0 c.args.i w.if-edge-i.true))
      | else-edge-i w ↦
          omega (arith, c.loop-edge.invariant, push, whole, w.count-is, ap {B = ℕ} (λ b. cond b 1 0) (test_differs c.edge-item.result.to.0 c.args.i w.if-edge-i.false))
    ]
