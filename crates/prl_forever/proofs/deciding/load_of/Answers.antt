use Rattle.prl_base.proofs.Standard.{◌≡◌, ◌*◌, ◌<◌, ℕ, length, ap, arith}
use Rattle.prl_plan.specs.Vocabulary.{task_at}
use Rattle.prl_plan.specs.declared.graphs.TaskGraph.{TaskGraph}
use Rattle.prl_tables.specs.Tables.{classes}
use Rattle.prl_forever.proofs.Loads.{load_next}
use Rattle.prl_forever.proofs.deciding.load_of.Goals as goal

pub overflow_add-load : goal.overflow_add-load
overflow_add-load c =
    let same : length c.graph.result.now.tasks ≡ length c.args.plan.now.graph.tasks = ap (λ (x : TaskGraph). length x.tasks) c.graph.ensures.graph in
    let inside : c.loop-i.i < length c.args.plan.now.graph.tasks = omega (arith, c.loop-i-test.true, c.loop-i.auto.i-end, c.len-i-end.ensures, same) in
    let next = load_next c.args.plan.now c.plan_is_one.ensures c.loop-i.i inside in
    let first = ap (λ (x : ℕ). x * c.from.result) c.classes.ensures in
    let wcet : c.from.result ≡ (task_at c.args.plan.now.graph c.loop-i.i).wcet = omega (arith, c.from.ensures, c.wcet_of.ensures.wcet) in
    let second = ap (λ (x : ℕ). classes c.args.plan.now.graph c.loop-i.i * x) wcet in
    omega (arith, next, first, second, c.loop-i.invariant)
