use Rattle.std.proofs.Common.{◌≡◌, ◌+◌, ◌*◌, ◌<◌, ◌≤◌, ℕ, subst, sym, rules}
use Rattle.prl_plan.specs.Vocabulary.{job_count, task_at, operand_of, edge_at}
use Rattle.prl_plan.specs.declared.graphs.Edge.{Edge}
use Rattle.prl_plan.specs.declared.walks.Operand.TheVariants as operands
use Rattle.prl_plan.proofs.RoundPeriods.{task_is}
use Rattle.prl_picture.specs.Ranges.{IsArrow, IsEndOfReading}
use Rattle.prl_picture.proofs.Arrows.{own, reading_ends}
use Rattle.prl_picture.proofs.defaults.reading_end.Goals as goal

pub returns : goal.returns
returns c =
    let plan = c.args.plan.now in
    let law = c.horizon_jobs_are_counted.ensures in
    let edge : Edge = edge_at plan.graph c.args.e.0 in
    let reads : operand_of edge c.args.n ≡ operands.From c.in-From.m = search rules in
    let first : job_count (task_at plan.graph c.args.task.0) c.args.from ≤ c.in-From.m = search rules in
    let last : c.in-From.m < job_count (task_at plan.graph c.args.task.0) c.args.limit = search rules in
    let arrow : IsArrow plan c.args.from c.args.limit c.args.e.0 c.args.task.0 c.args.n c.in-From.m = record {
      producer = c.requires.producer;
      reads = reads;
      before = record { first = first; last = last };
      after = c.requires.job;
    } in
    let after : c.own_release-after.result ≡ own plan law edge.to.0 c.args.n =
    subst (λ (e : Edge). c.own_release-after.result ≡ (task_at plan.graph e.to.0).clock.start + c.args.n * (task_at plan.graph e.to.0).clock.period)
    c.edge_of.ensures.edge c.own_release-after.ensures.exact in
    let to = c.edge_of.ensures.fits.to in
    subst (λ (k : ℕ). IsEndOfReading plan c.args.from c.args.limit c.args.e.0 c.args.task.0 c.args.n (k + 1)) (sym c.max.ensures)
    (reading_ends plan law c.args.from c.args.limit c.args.e.0 c.args.task.0 c.args.n c.in-From.m c.own_release-before.result c.own_release-after.result
    c.requires.task (task_is plan.graph c.plan_is_one.ensures.graph c.args.task.0 c.requires.task).period.0
    to (task_is plan.graph c.plan_is_one.ensures.graph edge.to.0 to).period.0
    arrow c.own_release-before.ensures.exact after)
