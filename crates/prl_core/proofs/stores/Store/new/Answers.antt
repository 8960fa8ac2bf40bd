use Rattle.std.proofs.Common.{[], ◌∷◌, length, length-append, ap, arith}
use Rattle.prl_values.specs.Workers.{IsNewWorker}
use Rattle.prl_core.proofs.Stored.{workers_more}
use Rattle.prl_core.proofs.stores.Store.new.Goals as goal

pub loop-i-preserved : goal.loop-i-preserved
loop-i-preserved c = record {
  tasks = (let e = ap length c.in_ok-push.ensures.items in let l = length-append c.loop-i.workers.items (c.in_ok-new.field-0 ∷ []) in omega (arith, e, l, c.loop-i.invariant.tasks));
  each = workers_more (IsNewWorker c.args.plan.now c.args.bodies.now c.args.horizon.until) c.loop-i.workers.items c.push.new.self.items c.loop-i.i c.in_ok-new.field-0
      c.in_ok-push.ensures.items c.loop-i.invariant.tasks c.loop-i.invariant.each c.in_ok-new.ensures;
}
