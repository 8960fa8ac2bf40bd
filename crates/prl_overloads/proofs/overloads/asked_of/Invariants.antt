use Rattle.std.specs.Prelude.{◌≡◌}
use Rattle.prl_plan.specs.Horizons.{sum_below}
use Rattle.prl_overloads.specs.Overloads.{asked_by}
use Rattle.prl_overloads.proofs.overloads.asked_of.Given as goal

-- what the jobs of the first tasks ask for
abbrev pub invariant-loop-i : goal.invariant-loop-i
invariant-loop-i l = l.sum ≡ sum_below (asked_by l.plan l.fn.horizon l.from l.to) l.i
