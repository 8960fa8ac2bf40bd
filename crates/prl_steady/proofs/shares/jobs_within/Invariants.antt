use Rattle.prl_base.proofs.Standard.{◌≡◌, ◌≤◌}
use Rattle.prl_plan.specs.Vocabulary.{constants_of, sum_below}
use Rattle.prl_overlaps.specs.Demand.{cost_within}
use Rattle.prl_steady.specs.Shares.{horizon_to, told_until}
use Rattle.prl_steady.proofs.shares.jobs_within.Given as goal

-- the jobs so far that have to run within
abbrev pub invariant-loop-n : goal.invariant-loop-n
invariant-loop-n l = record {
  few : l.jobs ≤ l.n;
  sum : l.jobs ≡ sum_below (cost_within (constants_of l.plan (horizon_to (told_until l.plan))) (λ i n. 1) l.from l.to l.i.0) l.n;
}
