use Rattle.prl_base.proofs.Standard.{◌≡◌, ◌*◌, ◌∙◌, ℕ, ap, sym, arith}
use Rattle.prl_plan.specs.Vocabulary.{constants_of, job_count, task_at}
use Rattle.prl_overlaps.specs.Demand.{cost_within, wcets_of}
use Rattle.prl_steady.specs.Shares.{horizon_to, sum_within, told_until}
use Rattle.prl_steady.proofs.Starts.{cost_times, times_each}
use Rattle.prl_steady.proofs.shares.share_within.Goals as goal

pub returns : goal.returns
returns c =
    let plan = c.args.plan.now in
    let sum = times_each (cost_within (constants_of plan (horizon_to (told_until plan))) (wcets_of plan) c.args.from c.args.to c.args.i.0)
    (cost_within (constants_of plan (horizon_to (told_until plan))) (λ i n. 1) c.args.from c.args.to c.args.i.0) (task_at plan.graph c.args.i.0).wcet
    (job_count (task_at plan.graph c.args.i.0) (told_until plan)) (λ n below. cost_times (constants_of plan (horizon_to (told_until plan))) plan c.args.from c.args.to c.args.i.0 n) in
    let wcet : c.from.result ≡ (task_at plan.graph c.args.i.0).wcet = c.from.ensures ∙ c.wcet_of.ensures.wcet in
    let product = ap (λ (x : ℕ). x * c.from.result) c.jobs_within-jobs.ensures.count in
    let other = ap (λ (x : ℕ). sum_within plan (λ i n. 1) (told_until plan) c.args.from c.args.to c.args.i.0 * x) wcet in
    record { jobs = c.jobs_within-jobs.ensures.count; units = product ∙ other ∙ sym sum }
