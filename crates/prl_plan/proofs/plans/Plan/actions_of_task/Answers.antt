use Rattle.std.proofs.Common.{rules, ◌≡◌, ◌+◌, ◌*◌, ◌<◌, ◌≤◌, ℕ, length, take, arith}
use Rattle.prl_plan.specs.Vocabulary.{sum_below, reads_of}
use Rattle.prl_plan.proofs.ActionCounts.{reads_begin, writes_begin, reads_add, reads_stay, writes_add, writes_stay, all_counted}
use Rattle.prl_plan.proofs.plans.Plan.actions_of_task.Goals.{then-leads_to, else-leads_to, then-comes_from, else-comes_from}
use Rattle.prl_plan.proofs.plans.Plan.actions_of_task.Goals as goal

pub loop-e-init : goal.loop-e-init
loop-e-init c =
    let z : 0 * (4 * c.args.jobs) ≡ 0 = omega arith in
    record { counted = omega (arith, reads_begin c.args.self.now c.args.i.0 c.args.jobs, writes_begin c.args.self.now c.args.i.0 c.args.jobs); small = omega (arith, z) }

-- after the reads of edge e, and then after its writes
record Read (before after reads_old reads_new jobs : ℕ) : Type 0 where
  added : after + reads_old ≡ before + reads_new
  small : after ≤ before + 2 * jobs

pub loop-e-preserved : goal.loop-e-preserved
loop-e-preserved c =
    let inside : c.loop-e.e < length c.args.self.now.graph.edges = search rules in
    let counted = c.loop-e.invariant.counted in
    let small = c.loop-e.invariant.small in
    let times : (c.loop-e.e + 1) * (4 * c.args.jobs) ≡ c.loop-e.e * (4 * c.args.jobs) + 4 * c.args.jobs = omega arith in
    let reads : Read c.loop-e.count c.if-leads_to.count (sum_below (λ n. length (reads_of c.args.self.now c.args.i.0 n 0 (take c.loop-e.e c.args.self.now.graph.edges))) c.args.jobs)
    (sum_below (λ n. length (reads_of c.args.self.now c.args.i.0 n 0 (take (c.loop-e.e + 1) c.args.self.now.graph.edges))) c.args.jobs) c.args.jobs =
    elim c.if-leads_to.branch [
      | then-leads_to w ↦
          (let add = reads_add c.args.self.now c.args.i.0 c.args.jobs c.loop-e.e inside w.if-leads_to.ensures.yes in
          let is = w.count-is in
          record { added = omega (arith, add, w.reads_on-count.ensures.count, is); small = omega (arith, w.reads_on-count.ensures.small, is) })
      | else-leads_to w ↦
          (let is = w.count-is in
          record { added = omega (arith, reads_stay c.args.self.now c.args.i.0 c.args.jobs c.loop-e.e inside w.if-leads_to.ensures.no, is); small = omega (arith, is) })
    ] in
    let read = reads.added in
    let few_reads = reads.small in
    elim c.if-comes_from.branch [
      | then-comes_from w ↦
          (let add = writes_add c.args.self.now c.args.i.0 c.args.jobs c.loop-e.e inside w.if-comes_from.ensures.yes in
          let is = w.count-is in
          record { counted = omega (arith, add, w.writes_on-count.ensures.count, is, read, counted); small = omega (arith, w.writes_on-count.ensures.small, is, few_reads, small, times) })
      | else-comes_from w ↦
          (let stay = writes_stay c.args.self.now c.args.i.0 c.args.jobs c.loop-e.e inside w.if-comes_from.ensures.no in
          let is = w.count-is in
          record { counted = omega (arith, stay, is, read, counted); small = omega (arith, is, few_reads, small, times) })
    ]

pub returns-clause-actions : goal.returns-clause-actions
returns-clause-actions c =
    let end : c.loop-e.e ≡ length c.args.self.now.graph.edges = search rules in
    omega (arith, all_counted c.args.self.now c.args.i.0 c.args.jobs c.loop-e.e end, c.loop-e.invariant.counted)
