use Rattle.std.proofs.Common.{refl}
use Rattle.prl_core.proofs.Stored.{worker_read}
use Rattle.prl_core.proofs.stores.Store.end.Goals as goal

pub returns-clause-ends : goal.returns-clause-ends
returns-clause-ends c = record {
  worker = c.index_mut-worker.result.now;
  begun = c.begin.new.self;
  next = c.end.new.self;
  its = worker_read c.args.self.now.workers.items c.args.task.0 c.requires.worker c.index_mut-worker.result.now c.requires.its c.index_mut-worker.ensures.value;
  begins = c.begin.ensures;
  ends = c.end.ensures;
  workers = refl;
}
