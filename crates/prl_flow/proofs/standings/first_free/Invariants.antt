use Rattle.std.proofs.Common.{◌<◌, ℕ}
use Rattle.prl_flow.specs.Standings.{HasClock}
use Rattle.prl_flow.proofs.standings.first_free.Given as goal

abbrev pub invariant-loop-i : goal.invariant-loop-i
invariant-loop-i l = (x : ℕ) → x < l.i → HasClock l.standings x
