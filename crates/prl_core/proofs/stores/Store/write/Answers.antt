use Rattle.std.proofs.Common.{refl}
use Rattle.prl_core.proofs.Stored.{worker_read}
use Rattle.prl_core.proofs.stores.Store.write.Goals as goal

pub returns : goal.returns
returns c = record {
  worker = c.index_mut-worker.result.now;
  next = c.begin.new.self;
  its = worker_read c.args.self.now.workers.items c.args.task.0 c.requires.gives.begins.worker c.index_mut-worker.result.now c.requires.gives.begins.its c.index_mut-worker.ensures.value;
  begins = c.begin.ensures;
  workers = refl;
  value = c.given.result;
  given = c.given.ensures;
  stored = refl;
}
