use Rattle.prl_base.proofs.Standard.{◌<◌, Some, length, sym, ◌∙◌, ap, subst, arith, vec_items, length-map, slice_get-get_or, slice_get-map}
use Rattle.std.proofs.Common.{option_map}
use Rattle.prl_plan.specs.declared.graphs.TaskGraph.{TaskGraph}
use Rattle.prl_tables.specs.code.Sums.{AreTaskSums}
use Rattle.prl_tables.proofs.sums.check_units.Goals as goal

pub check_task-requires-clause-sums : goal.check_task-requires-clause-sums
check_task-requires-clause-sums c =
    let graph = ap (λ (g : TaskGraph). length g.tasks) c.graph.ensures.graph in
    let inside : c.loop-i.i < length c.args.sums.now = omega (arith, c.requires.sums.tasks, length-map c.args.sums.now vec_items, c.loop-i-test.true, c.len-i-end.ensures, graph) in
    subst (AreTaskSums c.args.plan.now c.args.entries.now c.loop-i.i) (sym c.as_slice.ensures.value)
    (c.requires.sums.each c.loop-i.i (vec_items c.index-sums-i.result)
    (slice_get-map vec_items c.args.sums.now c.loop-i.i
    ∙ ap (option_map vec_items) (slice_get-get_or c.args.sums.now c.loop-i.i c.index-sums-i.result inside ∙ ap Some (sym c.index-sums-i.is))))
