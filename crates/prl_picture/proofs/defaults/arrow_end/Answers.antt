use Rattle.prl_base.proofs.Standard.{◌≡◌, ◌≤◌, ◌∙◌, ℕ, inl, inr, true, ap, subst, arith, rules, cases_lt}
use Rattle.prl_plan.specs.Vocabulary.{job_count, task_at, edge_at, ComesFrom}
use Rattle.prl_plan.specs.declared.graphs.Edge.{Edge}
use Rattle.prl_shapes.specs.Acts.{is_in}
use Rattle.prl_picture.specs.Ranges.{IsArrow}
use Rattle.prl_picture.proofs.Arrows.{one_producer}
use Rattle.prl_picture.proofs.defaults.arrow_end.Goals as goal

pub returns-in-Some : goal.returns-in-Some
returns-in-Some c =
    let plan = c.args.plan.now in
    let edge : Edge = edge_at plan.graph c.args.e.0 in
    let ends = c.in-Some.ensures in
    let now = ends.1 c.in-Some.tick (search rules) in
    let first : c.job_count-first.result ≡ job_count (task_at plan.graph edge.to.0) c.args.from =
    c.job_count-first.ensures.exact ∙ ap (λ (e : Edge). job_count (task_at plan.graph e.to.0) c.args.from) c.edge_of-edge.ensures.edge in (
      (λ until late.
          (let found = ends.1 until late in
          record {
            i = c.in_ok-task.task.0;
            n = c.loop-n.n;
            m = found.0;
            inside = c.in_ok-task.ensures.some.0;
            giver = c.in_ok-task.ensures.some.2;
            reader = subst (λ (edge : Edge). is_in c.args.rows.now edge.to.0 ≡ true) c.edge_of-edge.ensures.edge c.in_ok-task.ensures.some.3;
            arrow = found.1;
          })),
      record {
        i = c.in_ok-task.task.0;
        n = c.loop-n.n;
        m = now.0;
        giver = c.in_ok-task.ensures.some.2;
        reader = subst (λ (edge : Edge). is_in c.args.rows.now edge.to.0 ≡ true) c.edge_of-edge.ensures.edge c.in_ok-task.ensures.some.3;
        within = ends.0;
        arrow = now.1;
        first = λ k p less arrow. (let begins = arrow.after.first in c.loop-n.invariant k p (omega (arith, begins, first)) less arrow);
        shortest = ends.2;
      },
    )

pub loop-n-preserved : goal.loop-n-preserved
loop-n-preserved c k m first below arrow = elim (cases_lt k c.loop-n.n) [
  | inl less ↦ c.loop-n.invariant k m first less arrow
  | inr more ↦
      (let same : k ≡ c.loop-n.n = omega (arith, more, below) in
      c.in_default.ensures m
      (subst (λ (j : ℕ). IsArrow c.args.plan.now c.args.from c.args.limit c.args.e.0 c.in_ok-task.task.0 j m) same arrow))
]

pub returns : goal.returns
returns c has =
    let plan = c.args.plan.now in
    let edge : Edge = edge_at plan.graph c.args.e.0 in
    let comes : ComesFrom edge.from c.in_ok-task.task.0 = subst (λ (e : Edge). ComesFrom e.from c.in_ok-task.task.0) c.edge_of-edge.ensures.edge c.in_ok-task.ensures.some.1 in
    let same : has.i ≡ c.in_ok-task.task.0 = one_producer edge.from has.i c.in_ok-task.task.0 has.arrow.producer comes in
    let first : c.job_count-first.result ≡ job_count (task_at plan.graph edge.to.0) c.args.from =
    c.job_count-first.ensures.exact ∙ ap (λ (e : Edge). job_count (task_at plan.graph e.to.0) c.args.from) c.edge_of-edge.ensures.edge in
    let last : c.job_count-last.result ≡ job_count (task_at plan.graph edge.to.0) c.args.limit =
    c.job_count-last.ensures.exact ∙ ap (λ (e : Edge). job_count (task_at plan.graph e.to.0) c.args.limit) c.edge_of-edge.ensures.edge in
    let over : c.job_count-last.result ≤ c.loop-n.n = search rules in
    let begins = has.arrow.after.first in
    let ends = has.arrow.after.last in
    c.loop-n.invariant has.n has.m (omega (arith, begins, first)) (omega (arith, ends, last, over))
    (subst (λ (i : ℕ). IsArrow plan c.args.from c.args.limit c.args.e.0 i has.n has.m) same has.arrow)
