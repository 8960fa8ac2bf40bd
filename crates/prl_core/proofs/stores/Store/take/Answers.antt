use Rattle.std.proofs.Common.{refl}
use Rattle.prl_core.proofs.Stored.{worker_read}
use Rattle.prl_core.proofs.stores.Store.take.Goals as goal

pub returns-clause-workers : goal.returns-clause-workers
returns-clause-workers c = record {
  worker = c.index_mut.result.now;
  next = c.take.new.self;
  its = worker_read c.args.self.now.workers.items c.args.task.0 c.requires.worker c.index_mut.result.now c.requires.its c.index_mut.ensures.value;
  takes = c.take.ensures;
  workers = refl;
}
