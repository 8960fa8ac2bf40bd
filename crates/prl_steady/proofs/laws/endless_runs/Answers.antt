use Rattle.prl_base.proofs.Standard.{◌≤◌, ℕ, Option, refl}
use Rattle.prl_plan.specs.Vocabulary.{constants_of, IsJob}
use Rattle.prl_overlaps.specs.Demand.{wcets_of}
use Rattle.prl_plan.proofs.RoundPeriods.{task_is}
use Rattle.prl_steady.proofs.Endless.{all_met, begins, endless_over, only_one, there_is}
use Rattle.prl_steady.proofs.Steady.{repeats}
use Rattle.prl_steady.proofs.laws.endless_runs.Goals as goal

pub returns-clause-some : goal.returns-clause-some
returns-clause-some c = λ plan is serves.
    there_is plan is c.plain_run_is_one.ensures.some c.feasibility.ensures.feasible serves (λ until i n. c.horizon_jobs_are_counted.ensures plan.graph until i n)

pub returns-clause-one : goal.returns-clause-one
returns-clause-one c = λ plan is run other first second t. only_one plan is run other first second t

pub returns-clause-met : goal.returns-clause-met
returns-clause-met c = λ plan is serves run endless.
    all_met plan is c.plain_run_is_one.ensures.some c.feasibility.ensures.feasible serves (λ until i n. c.horizon_jobs_are_counted.ensures plan.graph until i n)
    run (endless_over plan run endless)

pub returns-clause-begins : goal.returns-clause-begins
returns-clause-begins c = λ plan is serves run endless h of plain is_plain t early.
    begins plan is c.feasibility.ensures.feasible serves (λ until i n. c.horizon_jobs_are_counted.ensures plan.graph until i n) run endless h
    (c.plans_keep_facts.ensures plan h is of) plain is_plain t early

pub returns-clause-repeats : goal.returns-clause-repeats
returns-clause-repeats c = λ plan is serves run endless t from.
    repeats plan is run (endless_over plan run endless)
    (all_met plan is c.plain_run_is_one.ensures.some c.feasibility.ensures.feasible serves (λ until i n. c.horizon_jobs_are_counted.ensures plan.graph until i n)
    run (endless_over plan run endless))
    (λ until i n. c.horizon_jobs_are_counted.ensures plan.graph until i n) (c.served_for_ever.ensures.only plan is serves) t from
