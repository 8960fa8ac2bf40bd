use Rattle.std.specs.Prelude.{◌≡◌, ◌≤◌}
use Rattle.prl_plan.specs.Horizons.{constants_of, sum_below}
use Rattle.prl_overloads.specs.Overloads.{one_within}
use Rattle.prl_overloads.proofs.overloads.jobs_within.Given as goal

-- how many of the first jobs are within
abbrev pub invariant-loop-n : goal.invariant-loop-n
invariant-loop-n l = (l.count ≡ sum_below (one_within (constants_of l.plan l.fn.horizon) l.from l.to l.i.0) l.n) × (l.count ≤ l.n)
