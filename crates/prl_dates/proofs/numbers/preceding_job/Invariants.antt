use Rattle.std.proofs.Common.{◌≡◌, drop}
use Rattle.prl_plan.specs.Vocabulary.{preceding, PrecedingFits}
use Rattle.prl_dates.proofs.numbers.preceding_job.Given as goal

-- the operators to come lead from the number to the same job
abbrev pub invariant-loop-op : goal.invariant-loop-op
invariant-loop-op l = record {
  rest : preceding (drop l.op-index l.ops) l.number ≡ preceding l.ops l.n;
  fits : PrecedingFits (drop l.op-index l.ops) l.number;
}
