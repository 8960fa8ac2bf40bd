use Rattle.std.specs.Prelude.{◌≡◌, length}
use Rattle.std.specs.Vec.{vec_items}
use Rattle.prl_exec.proofs.runs.flags.Given as goal

abbrev pub invariant-loop : goal.invariant-loop
invariant-loop l = length (vec_items l.flags) ≡ l.counter
