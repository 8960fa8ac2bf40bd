use Rattle.std.proofs.Common.{ℕ, subst, arith}
use Rattle.prl_plan.specs.Vocabulary.{constants_of, RunConstants}
use Rattle.prl_plan.proofs.RoundPeriods.{task_is}
use Rattle.prl_edf.specs.Vocabulary.{wcets_of, IsVerdict}
use Rattle.prl_edf.specs.declared.analysis.Verdict.{Verdict}
use Rattle.prl_edf.specs.declared.analysis.Verdict.TheVariants as verdicts
use Rattle.test_calls.proofs.runs.count_events.Goals as goal

pub events_of-requires-clause-run : goal.events_of-requires-clause-run
events_of-requires-clause-run c =
    let k : RunConstants = constants_of c.args.plan.now c.in_ok-horizon.horizon in
    let cost : ℕ → ℕ → ℕ = wcets_of c.args.plan.now in
    let verdict : IsVerdict k cost (verdicts.Run c.in-Run.timed) = subst (λ (v : Verdict). IsVerdict k cost v) c.in-Run.is c.in_ok-timed.ensures in
    record {
      units = cost;
      are = λ i n job. ((task_is c.args.plan.now.graph c.plan_is_one.ensures.graph i job.task).wcet.0, omega arith);
      edf = verdict.1.plain.edf;
      met = verdict.1.met;
    }
