use Rattle.std.specs.Prelude.{◌≡◌}
use Rattle.prl_plan.specs.Horizons.{sum_below}
use Rattle.prl_overloads.specs.Shares.{cost_of}
use Rattle.prl_overloads.proofs.shares.cost_of_all.Given as goal

-- what the jobs of the first tasks cost
abbrev pub invariant-loop-i : goal.invariant-loop-i
invariant-loop-i l = l.sum ≡ sum_below (cost_of l.graph l.counts) l.i
