use Rattle.std.proofs.Common.{◌≡◌, ◌+◌, ◌-◌, ◌<◌, ◌≤◌, ℕ}
use Rattle.prl_plan.specs.Horizons.{constants_of}
use Rattle.prl_overlaps.specs.Vocabulary.{demand, wcets_of}
use Rattle.prl_overlaps.proofs.intervals.greatest.Given as goal

-- the demand of the interval so far, which is not overloaded, nor is a shorter one
abbrev pub invariant-loop-back : goal.invariant-loop-back
invariant-loop-back l = record {
  asked : l.demand ≡ demand (constants_of l.plan l.fn.horizon) (wcets_of l.plan) (l.to + 1 - l.back) l.to;
  none : (x : ℕ) → l.to < x + l.back → x ≤ l.to → x + demand (constants_of l.plan l.fn.horizon) (wcets_of l.plan) x l.to ≤ l.to;
}
