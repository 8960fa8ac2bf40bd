use Rattle.std.proofs.Common.{◌≡◌, ℕ, length, Some, slice_get}
use Rattle.prl_values.specs.Workers.{IsNewWorker}
use Rattle.prl_values.specs.declared.workers.Worker.{Worker}
use Rattle.prl_core.proofs.stores.Store.new.Given as goal

-- the workers of the tasks so far
abbrev pub invariant-loop-i : goal.invariant-loop-i
invariant-loop-i l = record {
  tasks : length l.workers.items ≡ l.i;
  each : (j : ℕ) (worker : Worker) → slice_get l.workers.items j ≡ Some worker → IsNewWorker l.plan l.bodies l.horizon.until j worker;
}
