use Rattle.prl_base.proofs.Standard.{◌≡◌, ◌<◌, length, ap, inl, inr, arith}
use Rattle.prl_plan.specs.declared.graphs.TaskGraph.{TaskGraph}
use Rattle.prl_plan.proofs.RoundPeriods.{task_is}
use Rattle.prl_forever.proofs.Loads.{later_to, none_to}
use Rattle.prl_forever.proofs.deciding.latest_start.Goals as goal

pub loop-i-init : goal.loop-i-init
loop-i-init c = (omega arith, none_to c.args.plan.now)

pub loop-i-preserved : goal.loop-i-preserved
loop-i-preserved c = (
  (let same : length c.graph.result.now.tasks ≡ length c.args.plan.now.graph.tasks = ap (λ (x : TaskGraph). length x.tasks) c.graph.ensures.graph in
      let inside : c.loop-i.i < length c.args.plan.now.graph.tasks = omega (arith, c.loop-i-test.true, c.loop-i.auto.i-end, c.len-i-end.ensures, same) in
      let small = (task_is c.args.plan.now.graph c.plan_is_one.ensures.graph c.loop-i.i inside).start in
      omega (arith, c.max-start.ensures, c.start_of.ensures, small, c.loop-i.invariant.0)),
  later_to c.args.plan.now c.loop-i.i c.loop-i.start c.max-start.result (omega (arith, c.max-start.ensures, c.start_of.ensures)) c.loop-i.invariant.1,
)

pub returns-clause-start : goal.returns-clause-start
returns-clause-start c =
    let same : length c.graph.result.now.tasks ≡ length c.args.plan.now.graph.tasks = ap (λ (x : TaskGraph). length x.tasks) c.graph.ensures.graph in
    let all : c.loop-i.i ≡ length c.args.plan.now.graph.tasks = omega (arith, c.loop-i-test.false, c.loop-i.auto.i-end, c.len-i-end.ensures, same) in
    record {
      by = λ i inside. c.loop-i.invariant.1.by i (omega (arith, inside, all));
      attained = elim c.loop-i.invariant.1.attained [
        | inl none ↦ inl none
        | inr some ↦ inr (some.0, (let b = some.1 in omega (arith, b, all)), some.2)
      ];
    }
