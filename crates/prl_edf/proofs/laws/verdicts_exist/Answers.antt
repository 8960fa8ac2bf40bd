use Rattle.prl_edf.proofs.SomeVerdict.{some_verdict}
use Rattle.prl_edf.proofs.laws.verdicts_exist.Goals as goal

pub returns : goal.returns
returns c = λ k facts cost are. some_verdict k cost (record {
  some = c.plain_run_is_one.ensures.some k facts cost;
  first = λ run plain. c.first_miss_ends_first_overload.ensures.end k facts cost run are plain.edf;
  fits = λ run plain met a b over. c.feasibility.ensures.overloaded k cost run a b over plain.edf.timed met;
})
