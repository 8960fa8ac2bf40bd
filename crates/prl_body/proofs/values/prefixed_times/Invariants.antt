use Rattle.std.proofs.Common.{◌≡◌}
use Rattle.prl_body.specs.Values.{prefixed_times}
use Rattle.prl_body.proofs.values.prefixed_times.Given as goal

abbrev pub invariant-loop : goal.invariant-loop
invariant-loop l = l.value ≡ prefixed_times l.prefix l.counter l.initial.value
