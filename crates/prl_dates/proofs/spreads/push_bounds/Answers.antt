use Rattle.std.proofs.Common.{◌≡◌, ◌+◌, List, ℕ, sym, ap, subst, arith}
use Rattle.prl_plan.specs.declared.graphs.TaskGraph.{TaskGraph}
use Rattle.prl_dates.specs.Vocabulary.{jobs_of, IsTablePart}
use Rattle.prl_dates.proofs.SpreadSteps.{part_more}
use Rattle.prl_dates.proofs.spreads.push_bounds.Goals as goal

pub loop-n-preserved : goal.loop-n-preserved
loop-n-preserved c =
    let j : c.jobs_of-count.result ≡ jobs_of c.graph.result.now c.args.i.0 = c.jobs_of-count.ensures.jobs in
    let g : jobs_of c.graph.result.now c.args.i.0 ≡ jobs_of c.args.plan.now.graph c.args.i.0 = ap (λ (x : TaskGraph). jobs_of x c.args.i.0) c.graph.ensures.graph in
    subst (λ (xs : List ℕ). IsTablePart c.args.plan.now c.args.bound c.args.i.0 (c.loop-n.n + 1) xs) (sym c.in_ok-push.ensures.items)
    (part_more c.args.plan.now c.args.bound c.args.i.0 c.loop-n.n c.loop-n.table.items c.bound_of.result c.loop-n.invariant c.bound_of.ensures (omega (arith, c.loop-n-test.true, j, g)))
