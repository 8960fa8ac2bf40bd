use Rattle.std.proofs.Common.{◌≤◌, ℕ, take, All}
use Rattle.prl_sensors.specs.Ends.{EndsBefore}
use Rattle.prl_sensors.proofs.ends.end_of.Given as goal

abbrev pub invariant-loop-out : goal.invariant-loop-out
invariant-loop-out l = All (EndsBefore l.end) (take l.out-index l.outs) × ((end : ℕ) → All (EndsBefore end) l.outs → l.end ≤ end)
