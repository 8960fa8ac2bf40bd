use Rattle.std.proofs.Common.{◌<◌, ◌≤◌, ℕ}
use Rattle.prl_dates.specs.code.Leaps.{RepeatsAlong}
use Rattle.prl_dates.proofs.leaps.repeats_over.Given as goal

abbrev pub invariant-loop-k : goal.invariant-loop-k
invariant-loop-k l = record {
  most : l.times ≤ l.most;
  along : 1 ≤ l.times → (k : ℕ) → k < l.k → RepeatsAlong l.lane l.wcet l.past l.now l.times k;
}
