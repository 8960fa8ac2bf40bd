use Rattle.std.proofs.Common.{◌≡◌, length, ap, ◌∙◌, arith}
use Rattle.test_calls.specs.Devices.{HasTaskRows}
use Rattle.test_calls.proofs.Served.{one_more}
use Rattle.test_calls.proofs.devices.have_rows.Goals as goal

pub loop-i-preserved : goal.loop-i-preserved
loop-i-preserved c =
    one_more (HasTaskRows c.args.plan.now.graph c.args.horizon.until c.args.rows.now) c.loop-i.i c.loop-i.invariant
    (c.has_rows_of_task.ensures c.if-not-has_rows_of_task.false)

pub returns : goal.returns
returns c = λ yes i below.
    let tasks : c.len-i-end.result ≡ length c.args.plan.now.graph.tasks = c.len-i-end.ensures ∙ ap (λ g. length g.tasks) c.graph.ensures.graph in
    c.loop-i.invariant i (omega (arith, below, tasks, c.loop-i-test.false, c.loop-i.auto.i-end))
