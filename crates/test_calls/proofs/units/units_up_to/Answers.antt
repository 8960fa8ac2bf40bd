use Rattle.prl_base.proofs.Standard.{◌≡◌, length, map, vec_items, min, ap, arith, length-map}
use Rattle.prl_plan.specs.Vocabulary.{constants_of, task_at}
use Rattle.prl_plan.specs.declared.graphs.TaskGraph.{TaskGraph}
use Rattle.prl_plan.proofs.RoundPeriods.{task_is}
use Rattle.prl_overlaps.specs.Demand.{wcets_of}
use Rattle.test_calls.proofs.EvenUnits.{even_lists}
use Rattle.test_calls.proofs.units.units_up_to.Goals as goal

pub returns : goal.returns
returns c =
    let long = c.loop-i.invariant.long in
    let ended = c.loop-i-test.false in
    let bound = c.loop-i.auto.i-end in
    let tasks = c.len-i-end.ensures in
    let same : length c.graph.result.now.tasks ≡ length c.args.plan.now.graph.tasks = ap (λ (x : TaskGraph). length x.tasks) c.graph.ensures.graph in
    even_lists (constants_of c.args.plan.now c.args.horizon) (wcets_of c.args.plan.now) (map vec_items c.loop-i.lists.items)
    (λ i. min (task_at c.args.plan.now.graph i).wcet c.args.most)
    (simp length-map (omega (arith, long, ended, bound, tasks, same)))
    (λ i n task.
    (let is = (task_is c.args.plan.now.graph c.plan_is_one.ensures.graph i task).wcet in
    let some = c.requires.some in
    let least = is.0 in
    (omega (arith, least, some), omega (arith))))
    (λ i task. c.loop-i.invariant.each i (omega (arith, task, long, ended, bound, tasks, same)))
