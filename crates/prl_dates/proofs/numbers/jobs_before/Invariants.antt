use Rattle.std.proofs.Common.{◌≡◌}
use Rattle.prl_dates.specs.code.Indices.{jobs_before}
use Rattle.prl_dates.proofs.numbers.jobs_before.Given as goal

abbrev pub invariant-loop-i : goal.invariant-loop-i
invariant-loop-i l = l.jobs ≡ jobs_before l.graph l.i
