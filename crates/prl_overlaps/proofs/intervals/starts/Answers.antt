use Rattle.std.proofs.Common.{◌≡◌, ◌+◌, ◌<◌, ℕ, List, length, get_or, ◌∙◌, ap, arith}
use Rattle.prl_plan.specs.Vocabulary.{constants_of, sum_below, RunConstants}
use Rattle.prl_plan.specs.declared.graphs.TaskGraph.{TaskGraph}
use Rattle.prl_overlaps.specs.Vocabulary.{wcets_of, cost_at}
use Rattle.prl_overlaps.proofs.Starts.{tasks_bound, part_less, cost_at_small, sum_next, wcet_bounds}
use Rattle.prl_overlaps.proofs.intervals.starts.Goals as goal

pub add_task-requires-clause-room : goal.add_task-requires-clause-room
add_task-requires-clause-room c = λ a within.
    let k : RunConstants = constants_of c.args.plan.now c.args.horizon in
    let cost : ℕ → ℕ → ℕ = wcets_of c.args.plan.now in
    let i : ℕ = c.loop-i.i in
    let graph : length c.graph.result.now.tasks ≡ length c.args.plan.now.graph.tasks = ap (λ (x : TaskGraph). length x.tasks) c.graph.ensures.graph in
    let below : i < k.tasks = omega (arith, c.loop-i-test.true, c.len-i-end.ensures, graph) in
    let sum = tasks_bound k (cost_at k cost c.args.to a) 2147483648 i (λ j n inside _. cost_at_small k cost c.args.to 2147483648 a j n
    (let h = (wcet_bounds c.args.plan.now c.plan_is_one.ensures j (omega (arith, inside, below))).1 in omega (arith, h))) in
    let all = part_less k.jobs (i + 1) k.tasks (omega (arith, below)) in
    let same = ap (λ (xs : List ℕ). get_or xs a 0) c.deref_mut.ensures.value in
    omega (arith, c.loop-i.invariant.sums a within, sum, sum_next k.jobs i, all, c.requires.horizon.jobs, c.requires.horizon.few_jobs, same)

pub returns-clause-sums : goal.returns-clause-sums
returns-clause-sums c = λ a within.
    let k : RunConstants = constants_of c.args.plan.now c.args.horizon in
    let cost : ℕ → ℕ → ℕ = wcets_of c.args.plan.now in
    let graph : length c.graph.result.now.tasks ≡ length c.args.plan.now.graph.tasks = ap (λ (x : TaskGraph). length x.tasks) c.graph.ensures.graph in
    let ended : c.loop-i.i ≡ k.tasks = omega (arith, c.loop-i-test.false, c.loop-i.auto.i-end, c.len-i-end.ensures, graph) in
    c.loop-i.invariant.sums a within ∙ ap (λ (n : ℕ). sum_below (λ j. sum_below (cost_at k cost c.args.to a j) (k.jobs j)) n) ended
