use Rattle.std.specs.Prelude.{◌<◌, ◌^◌}
use Rattle.prl_forever.proofs.Loads.{IsLatestTo}
use Rattle.prl_forever.proofs.deciding.latest_start.Given as goal

-- of the first tasks none starts later
abbrev pub invariant-loop-i : goal.invariant-loop-i
invariant-loop-i l = (l.start < 2 ^ 31) × IsLatestTo l.plan l.i l.start
