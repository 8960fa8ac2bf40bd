use Rattle.std.proofs.Common.{rules, ◌≡◌, ◌+◌, ◌*◌, ◌<◌, ◌^◌, ℕ, suc, length, ap, arith}
use Rattle.prl_plan.specs.Vocabulary.{sum_below, task_at, job_count, actions_of}
use Rattle.prl_plan.proofs.PartsOfSums.{part_of_sum}
use Rattle.prl_plan.proofs.plans.Plan.all_actions.Goals as goal

pub actions_of_task-count-requires-clause-jobs : goal.actions_of_task-count-requires-clause-jobs
actions_of_task-count-requires-clause-jobs c =
    let inside : c.loop-i.i < length c.args.self.now.graph.tasks = search rules in
    let part = part_of_sum (λ j. job_count (task_at c.args.self.now.graph j) c.args.until) (length c.args.self.now.graph.tasks) c.loop-i.i inside in
    omega (arith, part, c.requires.few, c.jobs_before.ensures)

pub loop-i-preserved : goal.loop-i-preserved
loop-i-preserved c =
    let same = ap (λ (k : ℕ). sum_below (λ n. length (actions_of c.args.self.now c.loop-i.i n)) k) c.jobs_before.ensures in
    let next : sum_below (λ i. sum_below (λ n. length (actions_of c.args.self.now i n)) (job_count (task_at c.args.self.now.graph i) c.args.until)) (c.loop-i.i + 1)
    ≡ sum_below (λ i. sum_below (λ n. length (actions_of c.args.self.now i n)) (job_count (task_at c.args.self.now.graph i) c.args.until)) c.loop-i.i
    + sum_below (λ n. length (actions_of c.args.self.now c.loop-i.i n)) (job_count (task_at c.args.self.now.graph c.loop-i.i) c.args.until) =
    ap (λ (k : ℕ). sum_below (λ i. sum_below (λ n. length (actions_of c.args.self.now i n)) (job_count (task_at c.args.self.now.graph i) c.args.until)) k) (let e : c.loop-i.i + 1 ≡ suc c.loop-i.i = omega arith in e) in
    let times : (c.loop-i.i + 1) * 2 ^ 32 ≡ c.loop-i.i * 2 ^ 32 + 2 ^ 32 = omega arith in
    record {
      counted = omega (arith, c.loop-i.invariant.counted, c.actions_of_task-count.ensures.actions, same, next);
      small = omega (arith, c.loop-i.invariant.small, c.actions_of_task-count.ensures.small, times);
    }
