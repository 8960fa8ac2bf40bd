use Rattle.std.proofs.Common.{◌+◌, ◌<◌, ◌≤◌, ℕ, List, get_or, ap, arith}
use Rattle.prl_plan.specs.Vocabulary.{IsJob, constants_of, RunConstants}
use Rattle.prl_overlaps.specs.Vocabulary.{wcets_of, cost_at}
use Rattle.prl_overlaps.proofs.Starts.{count_bound, cost_at_small, added, not_added, sum_next, wcet_bounds}
use Rattle.prl_overlaps.proofs.intervals.add_task.Goals as goal
use Rattle.prl_overlaps.proofs.intervals.add_task.Goals.{then-deadline-to, else-deadline-to}

pub overflow_add-starts : goal.overflow_add-starts
overflow_add-starts c =
    let k : RunConstants = constants_of c.args.plan.now c.args.horizon in
    let cost : ℕ → ℕ → ℕ = wcets_of c.args.plan.now in
    let i : ℕ = c.args.i.0 in
    let at : ℕ = c.release-release.result in
    let n : ℕ = c.loop-n.n in
    let inside : n < k.jobs i = (let e = c.jobs_of-n-end.ensures in let t = c.loop-n-test.true in omega (arith, e, t)) in
    let job : IsJob k i n = record { task = c.requires.task; job = inside } in
    let within : at ≤ c.args.to = omega (arith, c.plan_facts.ensures.window i n job, c.release-release.ensures.at, c.if-deadline-to.true, c.deadline.ensures.at) in
    let bounds = wcet_bounds c.args.plan.now c.wcet_of.ensures.plan i c.requires.task in
    let small : cost i 0 ≤ 2147483648 = (let h = bounds.1 in omega (arith, h)) in
    let sum = count_bound (cost_at k cost c.args.to at i) 2147483648 n (λ m _. cost_at_small k cost c.args.to 2147483648 at i m small) in
    omega (arith, c.loop-n.invariant at within, sum, c.requires.room at within, inside, bounds, c.wcet_of.ensures.wcet, c.from-cost.ensures)

pub loop-n-preserved : goal.loop-n-preserved
loop-n-preserved c = λ a within.
    let k : RunConstants = constants_of c.args.plan.now c.args.horizon in
    let cost : ℕ → ℕ → ℕ = wcets_of c.args.plan.now in
    let i : ℕ = c.args.i.0 in
    let n : ℕ = c.loop-n.n in
    let so_far = c.loop-n.invariant a within in
    let next = sum_next (cost_at k cost c.args.to a i) n in
    let inside : n < k.jobs i = (let e = c.jobs_of-n-end.ensures in let t = c.loop-n-test.true in omega (arith, e, t)) in
    let is = c.release-release.ensures.at in
    let d = c.deadline.ensures.at in
    elim c.if-deadline-to.branch [
      | then-deadline-to w ↦
          (let due = w.if-deadline-to.true in
          let long = c.requires.length in
          let kept = c.loop-n.auto.starts in
          let same = c.wcet_of.ensures.wcet in
          let wide = c.from-cost.ensures in
          let more = added k cost c.args.to c.loop-n.starts i n c.release-release.result (get_or c.loop-n.starts c.release-release.result 0 + c.from-cost.result)
          is (omega (arith, c.plan_facts.ensures.window i n (record { task = c.requires.task; job = inside }), is, due, d, long, kept)) (omega (arith, due, d)) (omega (arith, same, wide)) a in
          let e = ap (λ (xs : List ℕ). get_or xs a 0) w.starts-is in
          omega (arith, so_far, next, more, e))
      | else-deadline-to w ↦
          (let none = not_added k cost c.args.to i n (omega (arith, w.if-deadline-to.false, d)) a in
          let e = ap (λ (xs : List ℕ). get_or xs a 0) w.starts-is in
          omega (arith, so_far, next, none, e))
    ]
