use Rattle.std.proofs.Common.{◌≡◌, ◌++◌, replicate}
use Rattle.prl_dates.proofs.runs.push_times.Given as goal

abbrev pub invariant-loop : goal.invariant-loop
invariant-loop g l = l.table.items ≡ l.fn.table.items ++ replicate l.counter l.value
